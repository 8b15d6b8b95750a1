-- 01, "What the promises have to say": "Show that two outcomes allowed by one promise are equal." For each public function, over
-- its very contract (`Post`: what its `ensures` says of arguments, result and lent slices): whatever two outcomes it allows for
-- the same arguments, the answers are the same, and so is what each lent slice holds. A contract that allows a choice has no
-- proof here. Of the functions on numbers of any width, and of `joiner::message`, the lines are in UniqueNumbers and UniqueMessages.
-- Beside them stands what the look-up and the call on sections come to on a table that `check` accepts. The theorem is in
-- proofs/Unique.antt.
use Rattle.std.specs.Prelude.{ℕ, ◌≤◌, ◌≡◌, List, length}
use Rattle.std.specs.Prelude.{Ok}
use Rattle.table.specs.declared.Sections.{Sections}
use Rattle.types.specs.Table.{checked}
use Rattle.platform.specs.declared.reactions.Standing.{Standing}
use Rattle.platform.specs.Receiving.{received_of, left_of, list_after, sections_outcome, sections_output, sections_list}
use Rattle.recording.specs.Play.{state_of}
use Rattle.promises.specs.Lookups.{Lookups, laid}
use Rattle.refusal.proofs.Refusal.number.Reads.{Post as refusal-number}
use Rattle.wire.proofs.put_run.Reads.{Post as wire-put-run}
use Rattle.wire.proofs.part.Reads.{Post as wire-part}
use Rattle.wire.proofs.has_room.Reads.{Post as wire-has-room}
use Rattle.wire.proofs.least.Reads.{Post as wire-least}
use Rattle.wire.proofs.word_at.Reads.{Post as wire-word-at}
use Rattle.wire.proofs.swap64.Reads.{Post as wire-swap64}
use Rattle.wire.proofs.swapped_u64.Reads.{Post as wire-swapped-u64}
use Rattle.message.proofs.Header.new.Reads.{Post as message-Header-new}
use Rattle.message.proofs.read.Reads.{Post as message-read}
use Rattle.message.proofs.payload.Reads.{Post as message-payload}
use Rattle.message.proofs.write.Reads.{Post as message-write}
use Rattle.message.proofs.read_refusal.Reads.{Post as message-read-refusal}
use Rattle.message.proofs.frame_refusal.Reads.{Post as message-frame-refusal}
use Rattle.message.proofs.address_refusal.Reads.{Post as message-address-refusal}
use Rattle.message.proofs.contents_refusal.Reads.{Post as message-contents-refusal}
use Rattle.message.proofs.behind_header.Reads.{Post as message-behind-header}
use Rattle.message.proofs.put_header.Reads.{Post as message-put-header}
use Rattle.binding.proofs.BindingHeader.new.Reads.{Post as binding-BindingHeader-new}
use Rattle.binding.proofs.BindingHeader.read.Reads.{Post as binding-BindingHeader-read}
use Rattle.binding.proofs.pieces.Reads.{Post as binding-pieces}
use Rattle.binding.proofs.cut.Reads.{Post as binding-cut}
use Rattle.channel.proofs.room_start.Reads.{Post as channel-room-start}
use Rattle.channel.proofs.moved.Reads.{Post as channel-moved}
use Rattle.joiner.proofs.setup.Reads.{Post as joiner-setup}
use Rattle.joiner.proofs.take.Reads.{Post as joiner-take}
use Rattle.joiner.proofs.words.setup.Reads.{Post as joiner-words-setup}
use Rattle.joiner.proofs.words.take.Reads.{Post as joiner-words-take}
use Rattle.table.proofs.entries.type_at.Reads.{Post as table-entries-type-at}
use Rattle.table.proofs.entries.is_type.Reads.{Post as table-entries-is-type}
use Rattle.table.proofs.entries.member_at.Reads.{Post as table-entries-member-at}
use Rattle.table.proofs.entries.value_at.Reads.{Post as table-entries-value-at}
use Rattle.table.proofs.within.Reads.{Post as table-within}
use Rattle.table.proofs.fields_ok.Reads.{Post as table-fields-ok}
use Rattle.table.proofs.read.Reads.{Post as table-read}
use Rattle.table.proofs.layout.type_place.Reads.{Post as table-layout-type-place}
use Rattle.table.proofs.layout.member_place.Reads.{Post as table-layout-member-place}
use Rattle.table.proofs.sections_in.Reads.{Post as table-sections-in}
use Rattle.leaf.proofs.width.Reads.{Post as leaf-width}
use Rattle.leaf.proofs.allowed.Reads.{Post as leaf-allowed}
use Rattle.leaf.proofs.range_of.Reads.{Post as leaf-range-of}
use Rattle.leaf.proofs.measure.Reads.{Post as leaf-measure}
use Rattle.leaf.proofs.put.Reads.{Post as leaf-put}
use Rattle.leaf.proofs.takes.Reads.{Post as leaf-takes}
use Rattle.leaf.proofs.among_at.Reads.{Post as leaf-among-at}
use Rattle.leaf.proofs.truth.Reads.{Post as leaf-truth}
use Rattle.leaf.proofs.signed8.Reads.{Post as leaf-signed8}
use Rattle.leaf.proofs.signed16.Reads.{Post as leaf-signed16}
use Rattle.leaf.proofs.signed32.Reads.{Post as leaf-signed32}
use Rattle.types.proofs.check.Reads.{Post as types-check}
use Rattle.types.proofs.sizes.largest.Reads.{Post as types-sizes-largest}
use Rattle.walk.proofs.meet.Reads.{Post as walk-meet}
use Rattle.walk.proofs.look.Reads.{Post as walk-look}
use Rattle.walk.proofs.base_at.Reads.{Post as walk-base-at}
use Rattle.walk.proofs.fits.Reads.{Post as walk-fits}
use Rattle.walk.proofs.runs.base_codes.Reads.{Post as walk-runs-base-codes}
use Rattle.unpack.proofs.read_type.Reads.{Post as unpack-read-type}
use Rattle.pack.proofs.write_type.Reads.{Post as pack-write-type}
use Rattle.payload.proofs.unpack.Reads.{Post as payload-unpack}
use Rattle.payload.proofs.unpack_in.Reads.{Post as payload-unpack-in}
use Rattle.payload.proofs.pack.Reads.{Post as payload-pack}
use Rattle.payload.proofs.pack_in.Reads.{Post as payload-pack-in}
use Rattle.states.proofs.fresh.Reads.{Post as states-fresh}
use Rattle.states.proofs.is_up.Reads.{Post as states-is-up}
use Rattle.states.proofs.how_many_up.Reads.{Post as states-how-many-up}
use Rattle.states.proofs.mask.Reads.{Post as states-mask}
use Rattle.states.proofs.turned.Reads.{Post as states-turned}
use Rattle.recording.proofs.open.Reads.{Post as recording-open}
use Rattle.recording.proofs.next.Reads.{Post as recording-next}
use Rattle.recording.proofs.play.Reads.{Post as recording-play}
use Rattle.recording.proofs.keep.Reads.{Post as recording-keep}
use Rattle.recording.proofs.put_ending.Reads.{Post as recording-put-ending}

-- two outcomes for the same arguments agree on what is seen of them
abbrev pub Same : {K : Type 0} {A Z E : K → Type 0} {B : Type 0} → ((k : K) → A k → Z k → E k → Type 0) → ((k : K) → Z k → E k → B) → Type 0
Same {K} {A} {Z} {E} post seen = (k : K) (a : A k) (z z' : Z k) (e e' : E k) → post k a z e → post k a z' e' → seen k z e ≡ seen k z' e'

-- the answer
abbrev pub Answer : {K : Type 0} {A E : K → Type 0} {B : Type 0} → ((k : K) → A k → B → E k → Type 0) → Type 0
Answer post = Same post (λ k z e. z)

-- what a lent slice holds afterwards
abbrev pub Lent : {K : Type 0} {A Z E : K → Type 0} {B : Type 0} → ((k : K) → A k → Z k → E k → Type 0) → ((k : K) → E k → B) → Type 0
Lent post left = Same post (λ k z e. left k e)

pub record WireUnique : Type 0 where
  pub put_run_s : Lent wire-put-run (λ k e. e.0.now)
  pub part : Same wire-part (λ k z e. z.now)
  pub has_room : Answer wire-has-room
  pub least : Answer wire-least
  pub word_at : Answer wire-word-at
  pub swap64 : Answer wire-swap64
  pub swapped-u64 : Answer wire-swapped-u64

pub record RefusalUnique : Type 0 where
  pub number : Answer refusal-number

pub record MessageUnique : Type 0 where
  pub new : Answer message-Header-new
  pub read : Answer message-read
  pub payload : Same message-payload (λ k z e. z.now)
  pub write : Answer message-write
  pub write_out : Lent message-write (λ k e. e.1.1.1.1.1.0.now)
  pub read-refusal : Answer message-read-refusal
  pub frame-refusal : Answer message-frame-refusal
  pub address-refusal : Answer message-address-refusal
  pub contents-refusal : Answer message-contents-refusal
  pub behind-header : Same message-behind-header (λ k z e. z.now)
  pub put_header_out : Lent message-put-header (λ k e. e.0.now)

pub record BindingUnique : Type 0 where
  pub new : Answer binding-BindingHeader-new
  pub read : Answer binding-BindingHeader-read
  pub pieces : Answer binding-pieces
  pub cut : Answer binding-cut
  pub cut_out : Lent binding-cut (λ k e. e.1.1.1.1.1.0.now)

pub record ChannelUnique : Type 0 where
  pub room-start : Answer channel-room-start
  pub moved : Answer channel-moved

pub record JoinerUnique : Type 0 where
  pub setup : Answer joiner-setup
  pub take : Answer joiner-take
  pub take-rooms : Lent joiner-take (λ k e. e.1.0.now)
  pub words_setup : Answer joiner-words-setup
  pub setup_state : Lent joiner-words-setup (λ k e. e.0.now)
  pub words_take : Answer joiner-words-take
  pub take_state : Lent joiner-words-take (λ k e. e.0.now)
  pub words_take_rooms : Lent joiner-words-take (λ k e. e.1.0.now)
  pub take_answer : Lent joiner-words-take (λ k e. e.1.1.1.0.now)

pub record TableUnique : Type 0 where
  pub type_at : Answer table-entries-type-at
  pub is-type : Answer table-entries-is-type
  pub member-at : Answer table-entries-member-at
  pub value-at : Answer table-entries-value-at
  pub within : Answer table-within
  pub fields-ok : Answer table-fields-ok
  pub read : Answer table-read
  pub type-place : Answer table-layout-type-place
  pub member-place : Answer table-layout-member-place
  pub sections-in : Answer table-sections-in

pub record LeafUnique : Type 0 where
  pub width : Answer leaf-width
  pub allowed : Answer leaf-allowed
  pub range-of : Answer leaf-range-of
  pub measure : Answer leaf-measure
  pub put_s : Lent leaf-put (λ k e. e.0.now)
  pub takes : Answer leaf-takes
  pub among-at : Answer leaf-among-at
  pub truth : Answer leaf-truth
  pub signed8 : Answer leaf-signed8
  pub signed16 : Answer leaf-signed16
  pub signed32 : Answer leaf-signed32

pub record TypesUnique : Type 0 where
  pub check : Answer types-check
  pub largest : Answer types-sizes-largest

pub record WalkUnique : Type 0 where
  pub meet : Answer walk-meet
  pub look : Answer walk-look
  pub base-at : Answer walk-base-at
  pub fits : Answer walk-fits
  pub base-codes : Answer walk-runs-base-codes
  pub base_codes_codes : Lent walk-runs-base-codes (λ k e. e.1.1.1.1.1.0.now)

pub record UnpackUnique : Type 0 where
  pub read-type : Answer unpack-read-type
  pub read_type_words : Lent unpack-read-type (λ k e. e.1.1.1.1.1.0.now)

pub record PackUnique : Type 0 where
  pub write-type : Answer pack-write-type
  pub write_type_out : Lent pack-write-type (λ k e. e.1.1.1.1.1.0.now)

pub record PayloadUnique : Type 0 where
  pub unpack : Answer payload-unpack
  pub unpack_words : Lent payload-unpack (λ k e. e.1.1.1.0.now)
  pub unpack-in : Answer payload-unpack-in
  pub unpack_in_words : Lent payload-unpack-in (λ k e. e.1.1.1.1.0.now)
  pub pack : Answer payload-pack
  pub pack_out : Lent payload-pack (λ k e. e.1.1.1.0.now)
  pub pack-in : Answer payload-pack-in
  pub pack_in_out : Lent payload-pack-in (λ k e. e.1.1.1.1.0.now)

pub record StatesUnique : Type 0 where
  pub fresh : Answer states-fresh
  pub is_up : Answer states-is-up
  pub how-many-up : Answer states-how-many-up
  pub mask : Answer states-mask
  pub turned : Answer states-turned

pub record RecordingUnique : Type 0 where
  pub opened : Answer recording-open
  pub next : Answer recording-next
  pub play : Same recording-play (λ k z e. state_of z e.1.0.now e.1.1.1.0.now)
  pub keep : Answer recording-keep
  pub keep_buffer : Lent recording-keep (λ k e. e.0.now)
  pub put-ending : Answer recording-put-ending
  pub put_ending_output : Lent recording-put-ending (λ k e. e.0.now)

-- docs/DECISIONS.md, 20: on a table that `check` accepts, what is found is the operation of that ID, the first that a plain scan
-- meets, or none where there is none; and the call on sections answers and leaves what the call on the bytes does
pub record OnAccepted : Type 0 where
  pub find : Lookups
  -- with the index as it is laid in any words that have room for it
  pub receive-checked : (own : ℕ) (t : List ℕ) (s : Sections) (words : List ℕ) (p : Standing) (l m : List ℕ) (room : ℕ) → checked t ≡ Ok s
      → s.operations.count ≤ length words → sections_outcome own t s (laid t s words) p l m room ≡ received_of own t p l m room
  pub receive_checked_out : (own : ℕ) (t : List ℕ) (s : Sections) (words : List ℕ) (p : Standing) (m out : List ℕ) → checked t ≡ Ok s
      → s.operations.count ≤ length words → sections_output own t s (laid t s words) p m out ≡ left_of own t p m out
  pub receive_checked_list : (own : ℕ) (t : List ℕ) (s : Sections) (words l m : List ℕ) → checked t ≡ Ok s
      → s.operations.count ≤ length words → sections_list own t s (laid t s words) l m ≡ list_after own t l m

pub record Unique : Type 0 where
  pub refusal : RefusalUnique
  pub wire : WireUnique
  pub message : MessageUnique
  pub binding : BindingUnique
  pub channel : ChannelUnique
  pub joiner : JoinerUnique
  pub table : TableUnique
  pub leaf : LeafUnique
  pub types : TypesUnique
  pub walk : WalkUnique
  pub unpack : UnpackUnique
  pub pack : PackUnique
  pub payload : PayloadUnique
  pub states : StatesUnique
  pub recording : RecordingUnique
  pub on_accepted : OnAccepted
