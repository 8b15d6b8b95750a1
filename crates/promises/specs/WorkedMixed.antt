-- 02, request 8: statuses of services at the platform call, worked out. Platform 7 speaks Issue 3, we are platform 1, and the table is empty. The
-- theorem is in proofs/WorkedMixed.antt.
use Rattle.std.specs.Prelude.{ℕ, ◌≡◌, List, [], ◌∷◌, ◌++◌, length, replicate}
use Rattle.wire.specs.Bytes.{bytes}
use Rattle.table.specs.declared.Section.{Section}
use Rattle.services.specs.declared.Availability.TheVariants.{Unavailable, Available}
use Rattle.platform.specs.declared.reactions.Standing.{Standing}
use Rattle.promises.specs.WorkedServices.{block250, pair, telling}
use Rattle.mixed.specs.Receiving.{number_given}
use Rattle.promises.specs.MixedCalls.{TableGiven, sections, answer_on, services_on}
use Rattle.promises.specs.MixedServices.{state_of}

abbrev pub seven : List ℕ
seven = 0x80 ∷ 0 ∷ 0 ∷ 0 ∷ []

abbrev pub all_down : Standing
all_down = record { states = record { w0 = 0; w1 = 0; w2 = 0; w3 = 0 }; next = 0 }

abbrev pub nowhere : Section
nowhere = record { at = 0; count = 0 }

abbrev pub empty : TableGiven
empty = sections [] (record { types = nowhere; members = nowhere; values = nowhere; operations = nowhere }) []

-- a platform message of Issue 3 from platform k, at 5 s 6 ns and with the number 9 (the request's first worked message)
abbrev pub message_from : ℕ → ℕ → List ℕ → List ℕ
message_from k id payload =
    0xEC ∷ 0x0A ∷ 0x10 ∷ k ∷ (bytes 2 id ++ (bytes 2 5 ++ (bytes 2 6 ++ (bytes 2 (length payload) ++ (bytes 2 9 ++ payload)))))

-- a status of services from 7, at words that say this of it: the number, and what is said of a service afterwards
abbrev pub gives : List ℕ → List ℕ → ℕ
gives ws payload = number_given (answer_on empty 1 seven [] all_down (replicate 128 0) ws (message_from 7 3 payload) 0).answer

abbrev pub leaves : List ℕ → List ℕ → List ℕ
leaves ws payload = services_on empty 1 seven [] all_down ws (message_from 7 3 payload) 0

pub record WorkedMixed : Type 0 where
  -- 250 are known: six new ones, 251 to 256, are noted
  pub six_new : gives block250 (telling 251 6) ≡ 0
  pub noted : state_of seven 7 (leaves block250 (telling 251 6)) 256 ≡ Unavailable
  pub not_named : state_of seven 7 (leaves block250 (telling 251 6)) 250 ≡ Available
  -- seven new ones are 63, and all words are as they were
  pub seven_new : gives block250 (telling 251 7) ≡ 63
  pub none_noted : leaves block250 (telling 251 7) ≡ block250
  -- seven pairs that name six new ones, and one that is known, are noted
  pub one_known : gives block250 (telling 250 7) ≡ 0
  pub told_anew : state_of seven 7 (leaves block250 (telling 250 7)) 250 ≡ Unavailable
  -- 2^29 services in four bytes: 8, and not 0; two services in the bytes of one: 8; none: read, and nothing changes
  pub too_many : gives block250 (bytes 2 0x20000000) ≡ 8
  pub one_missing : gives block250 (bytes 2 2 ++ pair 77 1) ≡ 8
  pub none_told : gives block250 (bytes 2 0) ≡ 0
  pub as_it_was : leaves block250 (bytes 2 0) ≡ block250
  -- the second state is reserved: 9, also where there is no room for its service, and where its words are not there
  pub reserved : gives block250 (bytes 2 2 ++ (pair 77 1 ++ pair 78 2)) ≡ 9
  pub nine_before_63 : gives block250 (bytes 2 8 ++ (pair 301 1 ++ (pair 302 1 ++ (pair 303 1 ++ (pair 304 1 ++ (pair 305 1 ++ (pair 306 1 ++ (pair 307 1
      ++ pair 308 2)))))))) ≡ 9
  pub nine_before_10 : gives [] (bytes 2 1 ++ pair 78 2) ≡ 9
  pub no_words : gives [] (bytes 2 1 ++ pair 78 1) ≡ 10
