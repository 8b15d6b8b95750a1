-- Two outcomes that one promise allows are equal: each contract is an equation with a definition.
-- Assumes nothing.
use mathlib.Core.Path.{sym, ◌∙◌}
use mathlib.Core.List.{[]}
use Rattle.platform.specs.Receiving.{fresh_standing}
use Rattle.platform.proofs.Unique.{same_outcome, same-output, same-list}
use Rattle.promises.proofs.Lookups.{lookups}
use Rattle.promises.specs.Unique.{RefusalUnique, WireUnique, MessageUnique, BindingUnique, ChannelUnique, JoinerUnique, TableUnique}
use Rattle.promises.specs.Unique.{LeafUnique, TypesUnique, WalkUnique, UnpackUnique, PackUnique, PayloadUnique}
use Rattle.promises.specs.Unique.{StatesUnique, RecordingUnique, OnAccepted, Unique}

refusal : RefusalUnique
refusal = record { number = λ k a z z' e e' p q. p.0 ∙ sym q.0 }

wire : WireUnique
wire =
    record {
      put_run_s = λ k a z z' e e' p q. p ∙ sym q;
      part = λ k a z z' e e' p q. p ∙ sym q;
      has_room = λ k a z z' e e' p q. p ∙ sym q;
      least = λ k a z z' e e' p q. p ∙ sym q;
      word_at = λ k a z z' e e' p q. p ∙ sym q;
      swap64 = λ k a z z' e e' p q. p ∙ sym q;
      swapped-u64 = λ k a z z' e e' p q. p ∙ sym q;
    }

message : MessageUnique
message =
    record {
      new = λ k a z z' e e' p q. p ∙ sym q;
      read = λ k a z z' e e' p q. p ∙ sym q;
      payload = λ k a z z' e e' p q. p ∙ sym q;
      write = λ k a z z' e e' p q. p.0 ∙ sym q.0;
      write_out = λ k a z z' e e' p q. p.1 ∙ sym q.1;
      read-refusal = λ k a z z' e e' p q. p ∙ sym q;
      frame-refusal = λ k a z z' e e' p q. p ∙ sym q;
      address-refusal = λ k a z z' e e' p q. p ∙ sym q;
      contents-refusal = λ k a z z' e e' p q. p ∙ sym q;
      behind-header = λ k a z z' e e' p q. p ∙ sym q;
      put_header_out = λ k a z z' e e' p q. p ∙ sym q;
    }

binding : BindingUnique
binding =
    record {
      new = λ k a z z' e e' p q. p ∙ sym q;
      read = λ k a z z' e e' p q. p ∙ sym q;
      pieces = λ k a z z' e e' p q. p ∙ sym q;
      cut = λ k a z z' e e' p q. p.0 ∙ sym q.0;
      cut_out = λ k a z z' e e' p q. p.1 ∙ sym q.1;
    }

channel : ChannelUnique
channel =
    record {
      room-start = λ k a z z' e e' p q. p ∙ sym q;
      moved = λ k a z z' e e' p q. p ∙ sym q;
    }

joiner : JoinerUnique
joiner =
    record {
      setup = λ k a z z' e e' p q. p ∙ sym q;
      take = λ k a z z' e e' p q. p.0 ∙ sym q.0;
      take-rooms = λ k a z z' e e' p q. p.1 ∙ sym q.1;
      words_setup = λ k a z z' e e' p q. p.0 ∙ sym q.0;
      setup_state = λ k a z z' e e' p q. p.1 ∙ sym q.1;
      words_take = λ k a z z' e e' p q. p.0 ∙ sym q.0;
      take_state = λ k a z z' e e' p q. p.1.0 ∙ sym q.1.0;
      words_take_rooms = λ k a z z' e e' p q. p.1.1.0 ∙ sym q.1.1.0;
      take_answer = λ k a z z' e e' p q. p.1.1.1 ∙ sym q.1.1.1;
    }

table : TableUnique
table =
    record {
      type_at = λ k a z z' e e' p q. p ∙ sym q;
      is-type = λ k a z z' e e' p q. p ∙ sym q;
      member-at = λ k a z z' e e' p q. p ∙ sym q;
      value-at = λ k a z z' e e' p q. p ∙ sym q;
      within = λ k a z z' e e' p q. p ∙ sym q;
      fields-ok = λ k a z z' e e' p q. p ∙ sym q;
      read = λ k a z z' e e' p q. p ∙ sym q;
      type-place = λ k a z z' e e' p q. p ∙ sym q;
      member-place = λ k a z z' e e' p q. p ∙ sym q;
      sections-in = λ k a z z' e e' p q. p ∙ sym q;
    }

leaf : LeafUnique
leaf =
    record {
      width = λ k a z z' e e' p q. p ∙ sym q;
      allowed = λ k a z z' e e' p q. p ∙ sym q;
      range-of = λ k a z z' e e' p q. p ∙ sym q;
      measure = λ k a z z' e e' p q. p ∙ sym q;
      put_s = λ k a z z' e e' p q. p ∙ sym q;
      takes = λ k a z z' e e' p q. p ∙ sym q;
      among-at = λ k a z z' e e' p q. p ∙ sym q;
      truth = λ k a z z' e e' p q. p ∙ sym q;
      signed8 = λ k a z z' e e' p q. p ∙ sym q;
      signed16 = λ k a z z' e e' p q. p ∙ sym q;
      signed32 = λ k a z z' e e' p q. p ∙ sym q;
    }

types : TypesUnique
types =
    record {
      check = λ k a z z' e e' p q. p ∙ sym q;
      largest = λ k a z z' e e' p q. p ∙ sym q;
    }

walk : WalkUnique
walk =
    record {
      meet = λ k a z z' e e' p q. p ∙ sym q;
      look = λ k a z z' e e' p q. p ∙ sym q;
      base-at = λ k a z z' e e' p q. p ∙ sym q;
      fits = λ k a z z' e e' p q. p ∙ sym q;
      base-codes = λ k a z z' e e' p q. p.0 ∙ sym q.0;
      base_codes_codes = λ k a z z' e e' p q. p.1 ∙ sym q.1;
    }

unpack : UnpackUnique
unpack =
    record {
      read-type = λ k a z z' e e' p q. p.0 ∙ sym q.0;
      read_type_words = λ k a z z' e e' p q. p.1 ∙ sym q.1;
    }

pack : PackUnique
pack =
    record {
      write-type = λ k a z z' e e' p q. p.0 ∙ sym q.0;
      write_type_out = λ k a z z' e e' p q. p.1 ∙ sym q.1;
    }

payload : PayloadUnique
payload =
    record {
      unpack = λ k a z z' e e' p q. p.0 ∙ sym q.0;
      unpack_words = λ k a z z' e e' p q. p.1 ∙ sym q.1;
      unpack-in = λ k a z z' e e' p q. p.0 ∙ sym q.0;
      unpack_in_words = λ k a z z' e e' p q. p.1 ∙ sym q.1;
      pack = λ k a z z' e e' p q. p.0 ∙ sym q.0;
      pack_out = λ k a z z' e e' p q. p.1 ∙ sym q.1;
      pack-in = λ k a z z' e e' p q. p.0 ∙ sym q.0;
      pack_in_out = λ k a z z' e e' p q. p.1 ∙ sym q.1;
    }

states : StatesUnique
states =
    record {
      fresh = λ k a z z' e e' p q. p ∙ sym q;
      is_up = λ k a z z' e e' p q. p ∙ sym q;
      how-many-up = λ k a z z' e e' p q. p ∙ sym q;
      mask = λ k a z z' e e' p q. p ∙ sym q;
      turned = λ k a z z' e e' p q. p ∙ sym q;
    }

recording : RecordingUnique
recording =
    record {
      opened = λ k a z z' e e' p q. p ∙ sym q;
      next = λ k a z z' e e' p q. p ∙ sym q;
      play = λ k a z z' e e' p q. p ∙ sym q;
      keep = λ k a z z' e e' p q. p.0 ∙ sym q.0;
      keep_buffer = λ k a z z' e e' p q. p.1 ∙ sym q.1;
      put-ending = λ k a z z' e e' p q. p.0 ∙ sym q.0;
      put_ending_output = λ k a z z' e e' p q. p.1 ∙ sym q.1;
    }

on_accepted : OnAccepted
on_accepted =
    record {
      find = lookups;
      receive-checked = λ own t s words p l m room e h. same_outcome t s e words h own p l m room;
      receive_checked_out = λ own t s words p m out e h. same-output t s e words h own p [] m out;
      receive_checked_list = λ own t s words l m e h. same-list t s e words h own (fresh_standing own) l m;
    }

pub unique : Unique
unique =
    record {
      refusal = refusal;
      wire = wire;
      message = message;
      binding = binding;
      channel = channel;
      joiner = joiner;
      table = table;
      leaf = leaf;
      types = types;
      walk = walk;
      unpack = unpack;
      pack = pack;
      payload = payload;
      states = states;
      recording = recording;
      on_accepted = on_accepted;
    }
