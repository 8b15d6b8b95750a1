-- 02, request 8; 001, 6.3 and Table 4: what is reported of a message of Issue 3 of each kind. What both issues have is reported in Issue
-- 6's words (specs/Reports). `Replies3` asks it of every message of Issue 3 that is read, but for those with a kind 2 ID.
use Rattle.std.specs.Prelude.{ℕ, ◌-◌, ◌≡◌, List, length, drop}
use Rattle.wire.specs.Bytes.{part}
use Rattle.table.specs.declared.Sections.{Sections}
use Rattle.message3.specs.declared.Header3.{Header3}
use Rattle.message3.specs.declared.Message3.{Message3}
use Rattle.message3.specs.declared.Message3.TheVariants as message3
use Rattle.platform.specs.declared.reactions.Heard.TheVariants as heard
use Rattle.mixed.specs.declared.reactions.Heard3.{Heard3}
use Rattle.mixed.specs.declared.reactions.Heard3.TheVariants as heard3
use Rattle.promises.specs.Reports.{HasID, IsVersioned}

-- VERSIONED_DATA_PULL: all, 0xFFFFFFFF, whether there is versioned data here or not (that there is none is told by Issue 6 alone); the
-- one operation; or that the ID isn't versioned data here
pub data Pulled3 (t : List ℕ) (s : Sections) (id : ℕ) (x : Heard3) : Type 0 where
  all : id ≡ 0xFFFFFFFF → x ≡ heard3.Common heard.PullOfAll → Pulled3 t s id x
  one : ¬ (id ≡ 0xFFFFFFFF) → (i : ℕ) → HasID t s id i → IsVersioned t s i → x ≡ heard3.Common (heard.PullOfOne id i) → Pulled3 t s id x
  not_versioned : ¬ (id ≡ 0xFFFFFFFF) → ((i : ℕ) → HasID t s id i → ¬ (IsVersioned t s i)) → x ≡ heard3.Common (heard.NotVersionedData id) → Pulled3 t s id x

-- domain 1: the operation and its payload part, which is all of the message behind its 24 bytes of header; or that the ID isn't in the
-- table
pub data Operated3 (t : List ℕ) (s : Sections) (id : ℕ) (m : List ℕ) (x : Heard3) : Type 0 where
  in_table : (i : ℕ) → HasID t s id i → x ≡ heard3.Common (heard.Operation i 24 (length m - 24)) → part m 24 (length m - 24) ≡ drop 24 m → Operated3 t s id m x
  not_in_table : ((i : ℕ) → ¬ (HasID t s id i)) → x ≡ heard3.Common (heard.NotInTable id) → Operated3 t s id m x

-- what is reported of the message m with this header and of this kind. A status with its composite's ID; of services how many it told;
-- the two composite messages and SERVICE_NOT_AVAILABLE as what they say, and nothing else is done with them
abbrev pub Reports3 : List ℕ → Sections → Header3 → List ℕ → Message3 → Heard3 → Type 0
Reports3 t s h m (message3.PlatformStatus y composite) x = x ≡ heard3.Status y composite
Reports3 t s h m message3.PlatformStatusRequest x = x ≡ heard3.Common heard.Request
Reports3 t s h m (message3.AvailabilityStatus n) x = x ≡ heard3.Services n
Reports3 t s h m (message3.AvailabilityStatusRequest id) x = x ≡ heard3.ServicesRequest id
Reports3 t s h m (message3.UnknownOperation id) x = x ≡ heard3.Common (heard.UnknownOperation id)
Reports3 t s h m (message3.ServiceNotAvailable id) x = x ≡ heard3.ServiceNotAvailable id
Reports3 t s h m (message3.VersionedDataPull id) x = Pulled3 t s id x
Reports3 t s h m (message3.CompositeChangeRequest composite) x = x ≡ heard3.CompositeChange composite
Reports3 t s h m (message3.CompositeChangeRequestAck a) x = x ≡ heard3.CompositeAnswer a
Reports3 t s h m message3.Operation x = Operated3 t s h.id m x
