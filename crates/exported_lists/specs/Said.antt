-- A REPLY OF THE LISTS AS NUMBERS, which cross to other languages.
use Rattle.std.specs.Prelude.{◌≡◌, Result, Ok, Err, List, ℕ}
use Rattle.protocol.specs.PlainLists.{PlainCall}
use Rattle.refusals.specs.declared.Refusal.{Refusal}
use Rattle.refusals.specs.Numbers.{number_of}
use Rattle.lists.specs.declared.Reply.{Reply}
use Rattle.lists.specs.declared.Reply.TheVariants.{Begun, Sent, Took}
use Rattle.lists.specs.View.{LentLists}
use Rattle.lists.specs.Calls.{ListsMet, ListsHanded}
use Rattle.exported_lists.specs.declared.Said.{Said}

-- the refusal, or 0; the message's number; how many octets its text has
abbrev pub said_of : Result Reply Refusal → Said
said_of (Err refusal) = record { refusal = number_of refusal; number = 0; size = 0 }
said_of (Ok Begun) = record { refusal = 0; number = 0; size = 0 }
said_of (Ok (Sent n)) = record { refusal = 0; number = n.0; size = 0 }
said_of (Ok (Took n size)) = record { refusal = 0; number = n.0; size = size }

-- a call whose reply is said so
pub record CallSaid (L L' : LentLists) (call : PlainCall) (r : Said) : Type 0 where
  pub reply : Result Reply Refusal
  pub met : ListsMet L L' call reply
  pub said : r ≡ said_of reply

-- the same of a take
pub record TakeSaid (L L' : LentLists) (s c : ℕ) (r : Said) (buffer buffer' : List ℕ) : Type 0 where
  pub reply : Result Reply Refusal
  pub handed : ListsHanded L L' s c reply buffer buffer'
  pub said : r ≡ said_of reply
