-- THE CALLS IN ROWS: which call of the lists a row's words say, and which calls the first rows are.
use Rattle.std.specs.Prelude.{cond, Option, None, Some, List, [], ◌∷◌, ◌++◌, ℕ, zero, suc, ◌+◌, ◌<◌, ◌≤◌, eqb, length, take, drop}
use Rattle.std.proofs.Math.Option as math
use Rattle.protocol.specs.PlainLists.{PlainCall, plain_start, plain_send, plain_take}
use Rattle.rows.specs.Rows.{cell}
use Rattle.training_rows.specs.declared.Call.{Call}
use Rattle.training_rows.specs.declared.Call.TheVariants.{Start, Send, Take}
use Rattle.training_rows.specs.declared.Words.{Words}

-- THE WORDS OF A ROW

abbrev pub width : ℕ
width = 5

abbrev pub words : ℕ → ℕ → ℕ → ℕ → ℕ → Words
words kind first second from size = record { kind = kind; first = first; second = second; from = from; size = size }

-- the words that say a call: its kind, two numbers, and where its text is and how long; of no call the kind is 0
abbrev pub words_of : Option Call → Words
words_of None = words 0 0 0 0 0
words_of (Some (Start n k)) = words 1 n k 0 0
words_of (Some (Send s set from size)) = words 2 s.0 set from size
words_of (Some (Take s c)) = words 3 s.0 c.0 0 0

-- and the call that words say
unfoldable pub call_of : Words → Option Call
call_of w =
    cond (eqb w.kind 1) (Some (Start w.first w.second))
    (cond (eqb w.kind 2) (Some (Send (record { 0 = w.first }) w.second w.from w.size))
    (cond (eqb w.kind 3) (Some (Take (record { 0 = w.first }) (record { 0 = w.second }))) None))

-- the call in row r
abbrev pub calls_of : (ℕ → ℕ → ℕ) → ℕ → Option Call
calls_of W r = call_of (words (W r 0) (W r 1) (W r 2) (W r 3) (W r 4))

abbrev pub calls_in : List ℕ → ℕ → Option Call
calls_in calls = calls_of (cell width calls)

-- THE CALLS TO THE LISTS

-- the call of the lists that it is, with the text from these octets; or none
abbrev pub made_in : List ℕ → Option Call → math.Option PlainCall
made_in l None = math.none
made_in l (Some (Start n k)) = math.some (plain_start n k)
made_in l (Some (Send s set from size)) = math.some (plain_send s.0 set (take size (drop from l)))
made_in l (Some (Take s c)) = math.some (plain_take s.0 c.0)

-- those of the first n rows, in their order
unfoldable pub made_by : List ℕ → (ℕ → Option Call) → ℕ → List (math.Option PlainCall)
made_by l C zero = []
made_by l C (suc n) = made_by l C n ++ (made_in l (C n) ∷ [])

-- ITS TEXT is within so many octets
abbrev pub TextIn : ℕ → Option Call → Type 0
TextIn n None = Unit {0}
TextIn n (Some (Start s k)) = Unit {0}
TextIn n (Some (Send s set from size)) = from + size ≤ n
TextIn n (Some (Take s c)) = Unit {0}

-- and those of the first n rows are
abbrev pub TextsIn : List ℕ → List ℕ → ℕ → Type 0
TextsIn l calls n = (k : ℕ) → k < n → TextIn (length l) (calls_in calls k)
