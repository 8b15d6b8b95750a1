-- 01, "Platform states and replies": what is reported of a message of each kind, in 01's words. `Replies` (specs/Platforms) asks
-- it of every message that is read, but for those with a kind 2 ID (specs/Responses); platforms that report something else are in
-- specs/WrongReports.
use Rattle.std.specs.Prelude.{ℕ, ◌-◌, ◌<◌, ◌≡◌, List, length, drop}
use Rattle.table.specs.declared.Sections.{Sections}
use Rattle.message.specs.declared.Header.{Header}
use Rattle.message.specs.declared.Message.{Message}
use Rattle.message.specs.declared.Message.TheVariants as message
use Rattle.platform.specs.declared.reactions.Heard.{Heard}
use Rattle.platform.specs.declared.reactions.Heard.TheVariants as heard
use Rattle.platform.specs.Heard.{payload_heard}
use Rattle.promises.specs.Rules32.{id_of, operation_kind}

-- entry i of the table's operations has this ID; entry i is versioned data, kind 1
abbrev pub HasID : List ℕ → Sections → ℕ → ℕ → Type 0
HasID t s id i = (i < s.operations.count) × (id_of t s i ≡ id)

abbrev pub IsVersioned : List ℕ → Sections → ℕ → Type 0
IsVersioned t s i = operation_kind t s i ≡ 1

-- 02, 1: "kinds 2 (we send the request) and 3 (we serve it)"
abbrev pub IsSent : List ℕ → Sections → ℕ → Type 0
IsSent t s i = operation_kind t s i ≡ 2

abbrev pub IsServed : List ℕ → Sections → ℕ → Type 0
IsServed t s i = operation_kind t s i ≡ 3

-- "a kind 2 ID"
abbrev pub IsKind2 : List ℕ → Sections → ℕ → Type 0
IsKind2 t s id = (i : ℕ) × HasID t s id i × IsSent t s i

-- VERSIONED_DATA_PULL: "an answer naming all, or the one operation; if the ID isn't versioned data here", that. All is 0xFFFFFFFF,
-- and is not versioned data where there is none
pub data Pulled (t : List ℕ) (s : Sections) (id : ℕ) (x : Heard) : Type 0 where
  all : id ≡ 0xFFFFFFFF → (i : ℕ) → i < s.operations.count → IsVersioned t s i → x ≡ heard.PullOfAll → Pulled t s id x
  none_of_all : id ≡ 0xFFFFFFFF → ((i : ℕ) → i < s.operations.count → ¬ (IsVersioned t s i)) → x ≡ heard.NotVersionedData id → Pulled t s id x
  one : ¬ (id ≡ 0xFFFFFFFF) → (i : ℕ) → HasID t s id i → IsVersioned t s i → x ≡ heard.PullOfOne id i → Pulled t s id x
  not_versioned : ¬ (id ≡ 0xFFFFFFFF) → ((i : ℕ) → HasID t s id i → ¬ (IsVersioned t s i)) → x ≡ heard.NotVersionedData id → Pulled t s id x

-- domain 1: "the operation and its payload part", which is all of the message behind its 20 bytes of header; "if the ID isn't in the
-- table", that
pub data Operated (t : List ℕ) (s : Sections) (id : ℕ) (m : List ℕ) (x : Heard) : Type 0 where
  in_table : (i : ℕ) → HasID t s id i → x ≡ heard.Operation i 20 (length m - 20) → payload_heard m x ≡ drop 20 m → Operated t s id m x
  not_in_table : ((i : ℕ) → ¬ (HasID t s id i)) → x ≡ heard.NotInTable id → Operated t s id m x

-- what is reported of the message m with this header and of this kind
abbrev pub Reports : List ℕ → Sections → Header → List ℕ → Message → Heard → Type 0
Reports t s h m (message.PlatformStatus y) x = x ≡ heard.Status y
Reports t s h m message.PlatformStatusRequest x = x ≡ heard.Request
Reports t s h m (message.UnknownOperation id) x = x ≡ heard.UnknownOperation id
Reports t s h m (message.VersionedDataPull id) x = Pulled t s id x
Reports t s h m message.Operation x = Operated t s h.id m x
