-- WHAT A CALL LEAVES: it was handed lists in lent parts L and left L', and replied a.
use Rattle.std.specs.Prelude.{◌≡◌, true, not, Result, Ok, Err, List, ◌++◌, ℕ, ◌+◌, ◌^◌, eqb, ltb, leb, length, drop}
use Rattle.protocol.specs.Folds.{count}
use Rattle.protocol.specs.CartSets.{has}
use Rattle.protocol.specs.Floor.{limits, most_text}
use Rattle.protocol.specs.Refusals.{check}
use Rattle.protocol.specs.PlainLists.{PlainCall, plain_take, PlainAnswer, plain_refused, plain_begun, plain_sent, plain_took, plain_passes, plain_answer, plain_step, most_entries}
use Rattle.refusals.specs.declared.Refusal.{Refusal}
use Rattle.refusals.specs.Numbers.{number_of}
use Rattle.lists.specs.declared.Reply.{Reply}
use Rattle.lists.specs.declared.Reply.TheVariants.{Begun, Sent, Took}
use Rattle.lists.specs.View.{LentLists, lent_right, lists_in, Counts}

-- the reply to a call, with the number of a refusal
abbrev pub numbered : Result Reply Refusal → Result Reply ℕ
numbered (Ok reply) = Ok reply
numbered (Err refusal) = Err (number_of refusal)

-- the one that says a written answer; of a text it says how many octets, and the text itself is in the buffer
abbrev pub reply_of : PlainAnswer → Result Reply ℕ
reply_of (plain_refused r) = Err r
reply_of plain_begun = Ok Begun
reply_of (plain_sent n) = Ok (Sent (record { 0 = n }))
reply_of (plain_took n text) = Ok (Took (record { 0 = n }) (length text))

pub record ListsMet (L L' : LentLists) (call : PlainCall) (a : Result Reply Refusal) : Type 0 where
  -- the reply is the written answer
  pub answers : numbered a ≡ reply_of (plain_answer limits (lists_in L) call)
  -- the lists are what the written step leaves
  pub lists : lists_in L' ≡ plain_step limits (lists_in L) call
  -- a refusal changes no word
  pub untouched : (refusal : Refusal) → a ≡ Err refusal → L' ≡ L

-- a lent buffer behind an answer: the text of a take at its front, and "leaves the rest"
abbrev pub with_text : PlainAnswer → List ℕ → List ℕ
with_text (plain_refused r) buffer = buffer
with_text plain_begun buffer = buffer
with_text (plain_sent n) buffer = buffer
with_text (plain_took n text) buffer = text ++ drop (length text) buffer

-- of a take from the list of station s and cart c, with a buffer before and after
pub record ListsHanded (L L' : LentLists) (s c : ℕ) (a : Result Reply Refusal) (buffer buffer' : List ℕ) : Type 0 where
  pub met : ListsMet L L' (plain_take s c) a
  pub octets : buffer' ≡ with_text (plain_answer limits (lists_in L) (plain_take s c)) buffer

-- LISTS THAT CALLS CAN GO ON WITH: the lent parts have their lengths, and if the lists are started they pass the form rule. Those that are not
-- started take only a start
pub record ListsReady (L : LentLists) : Type 0 where
  pub lengths : lent_right L ≡ true
  pub passes : (lists_in L).started ≡ true → plain_passes limits (lists_in L) ≡ true

-- THE CHECKS OF SUCH LISTS, by the counts alone

-- of a send with a text of so many octets
abbrev pub send_checks : Counts → ℕ → ℕ → ℕ → ℕ
send_checks N s set size =
    check 4 (ltb (most_text limits) size)
    (check 5 (not (eqb N.mark 1))
    (check 8 (leb N.stations s)
    (check 9 (leb (2 ^ N.carts) set)
    (check 13 (ltb limits.last (N.sent s))
    (check 30 (ltb (most_entries limits) (N.entries + count N.carts (has set))) 0)))))

-- of a take, all but 31
abbrev pub take_checks : Counts → ℕ → ℕ → ℕ
take_checks N s c =
    check 5 (not (eqb N.mark 1))
    (check 8 (leb N.stations s)
    (check 9 (leb N.carts c) 0))
