-- `joiner::take` meets its contract: what was judged, and only then written.
-- Assumes nothing.
use mathlib.Core.Path.{◌≡◌}
use borrow.Author.Rules.{rules}
use lib.ListN.{length}
use Rattle.channel.specs.Record.{channel_limit}
use Rattle.joiner.proofs.Taking.{moved-known, moved-fits, refused, moved}
use Rattle.joiner.proofs.take.Goals as goal

pub offset_bounds-after-moved : goal.offset_bounds-after-moved
offset_bounds-after-moved c =
    let j = c.args.joiner in
    let rooms = c.args.rooms.now in
    let d = c.args.datagram.now in
    let w : length j.channels ≡ channel_limit = search rules in
    moved-fits j rooms d w c.read-heading.ensures c.sender_of.ensures c.words_of-words.ensures c.look-found.ensures c.judge.ensures
    _ _ c.in-Ok.is

pub bounds-after-moved : goal.bounds-after-moved
bounds-after-moved c =
    let j = c.args.joiner in
    let rooms = c.args.rooms.now in
    let d = c.args.datagram.now in
    let w : length j.channels ≡ channel_limit = search rules in
    moved-known j rooms d w c.read-heading.ensures c.sender_of.ensures c.words_of-words.ensures c.look-found.ensures c.judge.ensures
    _ _ c.in-Ok.is

pub returns-in-Err : goal.returns-in-Err
returns-in-Err c =
    let t = let j = c.args.joiner in
    let rooms = c.args.rooms.now in
    let d = c.args.datagram.now in
    let w : length j.channels ≡ channel_limit = search rules in
    refused j rooms d w c.read-heading.ensures c.sender_of.ensures c.words_of-words.ensures c.look-found.ensures c.judge.ensures
    _ c.in-Err.is in record { value = t.0; rooms_after = t.1 }

pub returns-in-Ok : goal.returns-in-Ok
returns-in-Ok c =
    let t = let j = c.args.joiner in
    let rooms = c.args.rooms.now in
    let d = c.args.datagram.now in
    let w : length j.channels ≡ channel_limit = search rules in
    moved j rooms d w c.read-heading.ensures c.sender_of.ensures c.words_of-words.ensures c.look-found.ensures c.judge.ensures
    _ _ c.in-Ok.is c.write_piece.ensures in record { value = t.0; rooms_after = t.1 }
