-- Each call's number is that of the first of its checks that applies.
-- Assumes nothing.
use Prim.Native.Nat.{ℕ}
use Rattle.std.specs.Prelude.{Ok}
use mathlib.Core.Path.{◌≡◌, refl, sym}
use mathlib.Core.List.{List}
use Rattle.table.specs.Checked.{number_given as tableNumber}
use Rattle.message.specs.Reading.{number_given as number_read}
use Rattle.message.specs.Writing.{number_given as write_number}
use Rattle.binding.specs.Header.{number_given as headerNumber}
use Rattle.binding.specs.Counted.{number_given as pieces_number}
use Rattle.binding.specs.Made.{number_given as cut_number}
use Rattle.channel.specs.Outcomes.{number_given as take_number}
use Rattle.joiner.specs.declared.Joiner.{Joiner}
use Rattle.joiner.specs.declared.Taken.{Taken}
use Rattle.joiner.specs.Setup.{number_given as setup_number}
use Rattle.joiner.proofs.Moving.{step-number}
use Rattle.promises.specs.Order.{its_step, NumbersInOrder}
use Rattle.promises.specs.TableOrder.{TableNumberInOrder}
use Rattle.promises.proofs.Checks.{numbers, numbers-back}
use Rattle.promises.proofs.Order.{read_in_order, write_in_order, header_in_order, pieces_in_order, cut_in_order}
use Rattle.promises.proofs.TakeOrder.{setup_in_order, take_in_order}
use Rattle.promises.proofs.TableOrder.{table_in_order, table_made}

-- a step is no refusal
no_number : (j : Joiner) (d : List ℕ) → take_number (Ok (its_step j d).outcome) ≡ 0
no_number j d = sym (step-number (its_step j d).outcome)

pub numbers_in_order : NumbersInOrder
numbers_in_order =
    record {
      read = λ own s. numbers number_read (λ n. refl) refl (read_in_order own s);
      write = λ domain id payload room. numbers write_number (λ n. refl) refl (write_in_order domain id payload room);
      header = λ d. numbers-back headerNumber refl (refl, (refl, tt)) (header_in_order d);
      setup = λ ids R buffer. numbers-back setup_number refl (refl, tt) (setup_in_order ids R buffer);
      take = λ j rooms d w. numbers-back (λ (x : Taken). take_number x.outcome) (no_number j d) (refl, (refl, (refl, (refl, tt)))) (take_in_order j rooms d w);
      pieces = λ m s. numbers-back pieces_number refl (refl, tt) (pieces_in_order m s);
      cut = λ msg s sender first i room. numbers-back cut_number refl (refl, (refl, (refl, tt))) (cut_in_order msg s sender first i room);
    }

pub table_number_in_order : TableNumberInOrder
table_number_in_order t = numbers-back tableNumber refl (table_made tableNumber (λ n. n) t refl refl refl refl) (table_in_order t)
