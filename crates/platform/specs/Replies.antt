-- 01, "Platform states and replies": the replies that a platform can owe, and their bytes one behind another.
use Prim.{Unit}
use Rattle.std.specs.Prelude.{ℕ, ◌+◌, ◌^◌, ◌<◌, List, [], ◌∷◌, ◌++◌}
use Rattle.wire.specs.Bytes.{bytes}
use Rattle.message.specs.Header.{platform_domain}
use Rattle.message.specs.Platform.{platform_status, unknown_operation, versioned_data_pull}
use Rattle.message.specs.Writing.{header_for, message_bytes}
use Rattle.message.specs.declared.Header.{Header}
use Rattle.message.specs.declared.Status.TheVariants.{Up}
use Rattle.message.specs.declared.Message.{Message}
use Rattle.message.specs.declared.Message.TheVariants as message
use Rattle.platform.specs.declared.reactions.Reply.{Reply}
use Rattle.platform.specs.declared.reactions.Reply.TheVariants.{StatusUp, PullAll, Unknown}
use Rattle.platform.specs.declared.reactions.Owed.{Owed}
use Rattle.platform.specs.declared.reactions.Owed.TheVariants.{Nothing, One, Two}

-- 000, Table 4: the state UP, and the ID that stands for all versioned data
abbrev pub state_up : ℕ
state_up = 1

abbrev pub all_data : ℕ
all_data = 0xFFFFFFFF

-- own numbers start at 0 (docs/DECISIONS.md, 25); the next one is `drawn` of pending/specs/Free
abbrev pub first_number : ℕ
first_number = 0

-- 000, Tables 3 and 4: message ID, sequence number and the payload's one 32-bit field of each reply
abbrev pub reply_id : Reply → ℕ
reply_id (StatusUp n) = platform_status
reply_id (PullAll n) = versioned_data_pull
reply_id (Unknown n id) = unknown_operation

abbrev pub reply_number : Reply → ℕ
reply_number (StatusUp n) = n
reply_number (PullAll n) = n
reply_number (Unknown n id) = n

abbrev pub reply_field : Reply → ℕ
reply_field (StatusUp n) = state_up
reply_field (PullAll n) = all_data
reply_field (Unknown n id) = id

unfoldable pub reply_bytes : ℕ → Reply → List ℕ
reply_bytes own r = message_bytes own platform_domain (reply_id r) (reply_number r) (bytes 2 (reply_field r))

-- the header that a reply bears, and the message that its receiver is to read
abbrev pub reply_header : ℕ → Reply → Header
reply_header own r = header_for own platform_domain (reply_id r) (reply_number r) (bytes 2 (reply_field r))

abbrev pub meant : Reply → Message
meant (StatusUp n) = message.PlatformStatus Up
meant (PullAll n) = message.VersionedDataPull all_data
meant (Unknown n id) = message.UnknownOperation id

-- number and field of a reply are 32 bits wide
pub record Wide (r : Reply) : Type 0 where
  pub number : reply_number r < 2 ^ 32
  pub field : reply_field r < 2 ^ 32

-- a reply is 24 bytes long: the header and the field
abbrev pub reply_length : ℕ
reply_length = 24

-- the replies that are owed, in their order
abbrev pub replies : Owed → List Reply
replies Nothing = []
replies (One r) = r ∷ []
replies (Two r q) = r ∷ q ∷ []

abbrev pub Each : (Reply → Type 0) → List Reply → Type 0
Each P [] = Unit {0}
Each P (r ∷ rs) = P r × Each P rs

unfoldable pub owed_bytes : ℕ → Owed → List ℕ
owed_bytes own Nothing = []
owed_bytes own (One r) = reply_bytes own r
owed_bytes own (Two r q) = reply_bytes own r ++ reply_bytes own q

abbrev pub owed_length : Owed → ℕ
owed_length Nothing = 0
owed_length (One r) = reply_length
owed_length (Two r q) = reply_length + reply_length
