use mathlib.Core.Path.{◌≡◌, refl}
use borrow.Author.Rules.{rules}
use lib.ListN.{length}
use Rattle.channel.specs.Record.{channel_limit}
use Rattle.joiner.proofs.Storing.{sized, write-more, write_all, words-none}
use Rattle.joiner.proofs.in_words.words_of.Goals as goal

pub loop-i-preserved : goal.loop-i-preserved
loop-i-preserved c =
    let j = c.args.joiner in
    let w : length j.channels ≡ channel_limit = search rules in
    write-more j.channels w (sized j.count j.room) _ refl c.loop-i.invariant c.loop-i-test.true c.put_record.ensures

pub returns-then-count-le-CHANNELS : goal.returns-then-count-le-CHANNELS
returns-then-count-le-CHANNELS c =
    let j = c.args.joiner in
    let w : length j.channels ≡ channel_limit = search rules in
    write_all j _ w c.if-count-le-CHANNELS.true c.loop-i.invariant c.loop-i-test.false

pub returns : goal.returns
returns c =
    search words-none
