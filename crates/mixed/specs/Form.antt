-- 02, request 8: which form a message has, Issue 6's or Issue 3's.
use Rattle.std.specs.Prelude.{Bool, not, ◌&&◌, List, ℕ, eqb}
use Rattle.message.specs.Header.{the_version, version_in}
use Rattle.message3.specs.Header.{sender_in3}
use Rattle.partners.specs.Threes.{is_three}

-- 02, request 8: "find the sender before checking the version". Where byte 2 is Issue 6's version the sender is bytes 4 to 7; any other
-- byte 2 has it at byte 3. Issue 3's form is a message whose sender so found speaks Issue 3: every other has Issue 6's
unfoldable pub three_form : List ℕ → List ℕ → Bool
three_form i s = not (eqb (version_in s) the_version) && is_three i (sender_in3 s)
