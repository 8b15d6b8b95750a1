-- The words of a base, as they are tested for an enum, are those of 01.
-- Assumes nothing.
use Prim.Native.Nat.{ℕ, zero, suc, ◌-◌, ◌^◌, ◌≤◌}
use mathlib.Core.Path.{◌≡◌, refl, subst}
use mathlib.Core.Bool.{true, false, ◌&&◌}
use mathlib.Core.Logic.{◌⊎◌, ⊎_elim}
use native.Mathlib.Omega.{arith}
use lib.Dec.{eqb, leb, ltb}
use Rattle.table.specs.Leaf.{is_enum_base, base, in_signed, is_value, allowed}
use Rattle.promises.specs.Rules32.{Signed, AllowedIn}
use Rattle.promises.proofs.Checks.{Decides, lt_decides, le_decides, eq_decides, or_decides, and_decides}

-- the words of a base
signed : (half w : ℕ) → Decides (in_signed half w) (Signed half w)
unfolding in_signed
signed half w =
    or_decides (ltb w half) (leb (2 ^ 64 - half) w && ltb w (2 ^ 64)) (lt_decides w half)
    (and_decides (leb (2 ^ 64 - half) w) (ltb w (2 ^ 64)) (le_decides (2 ^ 64 - half) w) (lt_decides w (2 ^ 64)))

abbrev pub EnumBase : ℕ → Type 0
EnumBase code = (code ≡ 1) ⊎ ((3 ≤ code) × (code ≤ 10))

pub base_decides : (code : ℕ) → Decides (is_enum_base code) (EnumBase code)
base_decides code =
    or_decides (eqb code 1) (leb 3 code && leb code 10) (eq_decides code 1)
    (and_decides (leb 3 code) (leb code 10) (le_decides 3 code) (le_decides code 10))

module _ (w : ℕ) where
  says : (code : ℕ) → allowed code w ≡ true → AllowedIn code w
  unfolding allowed is_value base
  says code q =
      let at : (c : ℕ) → code ≡ c → allowed c w ≡ true = λ c e. subst (λ (x : ℕ). allowed x w ≡ true) e q in
      record {
        int8 = λ e. (signed 128 w).yes_is (at 1 e);
        int16 = λ e. (signed 32768 w).yes_is (at 3 e);
        int32 = λ e. (signed 2147483648 w).yes_is (at 4 e);
        int64 = λ e. (signed 9223372036854775808 w).yes_is (at 5 e);
        uint8 = λ e. (lt_decides w 256).yes_is (at 6 e);
        byte = λ e. (lt_decides w 256).yes_is (at 7 e);
        uint16 = λ e. (lt_decides w 65536).yes_is (at 8 e);
        uint32 = λ e. (lt_decides w 4294967296).yes_is (at 9 e);
        uint64 = λ e. (lt_decides w 18446744073709551616).yes_is (at 10 e);
      }

  refuses : (code : ℕ) → EnumBase code → allowed code w ≡ false → AllowedIn code w → ⊥
  unfolding allowed is_value base
  refuses zero b q a = ⊎_elim (λ e. omega (arith, e)) (λ p. omega (arith, p.0)) b
  refuses (suc zero) b q a = (signed 128 w).no_is q (a.int8 refl)
  refuses (suc (suc zero)) b q a = ⊎_elim (λ e. omega (arith, e)) (λ p. omega (arith, p.0)) b
  refuses (suc (suc (suc zero))) b q a = (signed 32768 w).no_is q (a.int16 refl)
  refuses (suc (suc (suc (suc zero)))) b q a = (signed 2147483648 w).no_is q (a.int32 refl)
  refuses (suc (suc (suc (suc (suc zero))))) b q a = (signed 9223372036854775808 w).no_is q (a.int64 refl)
  refuses (suc (suc (suc (suc (suc (suc zero)))))) b q a = (lt_decides w 256).no_is q (a.uint8 refl)
  refuses (suc (suc (suc (suc (suc (suc (suc zero))))))) b q a = (lt_decides w 256).no_is q (a.byte refl)
  refuses (suc (suc (suc (suc (suc (suc (suc (suc zero)))))))) b q a = (lt_decides w 65536).no_is q (a.uint16 refl)
  refuses (suc (suc (suc (suc (suc (suc (suc (suc (suc zero))))))))) b q a = (lt_decides w 4294967296).no_is q (a.uint32 refl)
  refuses (suc (suc (suc (suc (suc (suc (suc (suc (suc (suc zero)))))))))) b q a = (lt_decides w 18446744073709551616).no_is q (a.uint64 refl)
  refuses (suc (suc (suc (suc (suc (suc (suc (suc (suc (suc (suc n))))))))))) b q a = ⊎_elim (λ e. omega (arith, e)) (λ p. omega (arith, p.1)) b

  pub word-decides : (code : ℕ) → EnumBase code → Decides (allowed code w) (AllowedIn code w)
  word-decides code b = record { yes_is = says code; no_is = refuses code b }
