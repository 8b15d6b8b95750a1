-- `mixed::receive_within` meets its contract: by the form of the message, which it does not read itself.
-- Assumes nothing.
use Rattle.mixed.proofs.Calls.{unread, unread-output, unread-list, unread-words, of-six, of-six-output, of-six-list, of-six-words}
use Rattle.mixed.proofs.Calls.{of_three, of-three-output, of-three-list, of-three-words}
use Rattle.mixed.proofs.receive_within.Goals as goal

pub returns-in-Other-clause-answer : goal.returns-in-Other-clause-answer
returns-in-Other-clause-answer c =
    search unread

pub returns-in-Other-clause-output : goal.returns-in-Other-clause-output
returns-in-Other-clause-output c =
    search unread-output

pub returns-in-Other-clause-list : goal.returns-in-Other-clause-list
returns-in-Other-clause-list c =
    search unread-list

pub returns-in-Other-clause-blocks : goal.returns-in-Other-clause-blocks
returns-in-Other-clause-blocks c =
    search unread-words

pub returns-in-Six-clause-answer : goal.returns-in-Six-clause-answer
returns-in-Six-clause-answer c =
    search of-six

pub returns-in-Six-clause-output : goal.returns-in-Six-clause-output
returns-in-Six-clause-output c =
    search of-six-output

pub returns-in-Six-clause-list : goal.returns-in-Six-clause-list
returns-in-Six-clause-list c =
    search of-six-list

pub returns-in-Six-clause-blocks : goal.returns-in-Six-clause-blocks
returns-in-Six-clause-blocks c =
    search of-six-words

pub returns-in-Three-clause-answer : goal.returns-in-Three-clause-answer
returns-in-Three-clause-answer c =
    search of_three

pub returns-in-Three-clause-output : goal.returns-in-Three-clause-output
returns-in-Three-clause-output c =
    search of-three-output

pub returns-in-Three-clause-list : goal.returns-in-Three-clause-list
returns-in-Three-clause-list c =
    search of-three-list

pub returns-in-Three-clause-blocks : goal.returns-in-Three-clause-blocks
returns-in-Three-clause-blocks c =
    search of-three-words
