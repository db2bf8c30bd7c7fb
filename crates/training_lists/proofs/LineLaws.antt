-- LINES AND CALLS: the line of a take, one call, and one call more.
use mathlib.Core.Path.{◌≡◌, refl, sym, ap, ap₂, ◌∙◌, subst}
use mathlib.Core.List.{List, [], ◌∷◌, ◌++◌, append-nil, append_assoc}
use mathlib.Core.Option.{Option, none, some}
use Prim.Native.Nat.{ℕ, zero, suc, ◌+◌, ◌-◌, ◌≤◌}
use native.Mathlib.Omega.{arith}
use lib.ListN.{length, set, take, drop, length-append}
use Rattle.std.specs.Prelude.{Result, Ok, Err}
use Rattle.std.specs.Prelude as rust
use Rattle.refusals.specs.declared.Refusal.{Refusal}
use Rattle.protocol.specs.Floor.{Limits, limits}
use Rattle.protocol.specs.PlainLists.{Plain, PlainCall, plain_start, plain_send, plain_take, PlainAnswer, plain_refused, plain_begun, plain_sent, plain_took, plain_answer, Exchange, exchanged, fed, head_line, head_lines}
use Rattle.protocol.specs.Printed.{decimal, field}
use Rattle.frame_lines.specs.Lines.{written, Wrote, Began, longest_number, longest_pair}
use Rattle.frame_lines.proofs.Octets.{written_none, wrote_one, wrote_then, began_then, written_then}
use Rattle.ids.specs.declared.Station.{Station}
use Rattle.lists.specs.declared.Reply.{Reply}
use Rattle.lists.specs.declared.Reply.TheVariants.{Begun, Sent, Took}
use Rattle.lists.specs.View.{LentLists, lists_in}
use Rattle.lists.specs.Calls.{numbered, reply_of, ListsReady, ListsMet}
use Rattle.lists.proofs.Readies.{stays_ready}
use Rattle.training_rows.specs.declared.Call.{Call}
use Rattle.training_rows.specs.declared.Call.TheVariants.{Send}
use Rattle.training_rows.specs.Calls.{made_in, made_by, TextIn}
use Rattle.training_lists.specs.Lines.{plain_fed, exchanges_of, head_room, reply_line, Answered, Fed}

-- THE LINE OF A TAKE

-- what is behind the index covers what the index left
fields_long : (s n : ℕ) → 3 ≤ length (field s ++ field n ++ (10 ∷ []))
fields_long s n =
    let a = length-append (field s) (field n) in
    let b = length-append (field s ++ field n) (10 ∷ []) in
    omega arith

joined : (D S N E : List ℕ) → D ++ (S ++ N ++ E) ≡ D ++ S ++ N ++ E
joined D S N E = sym (append_assoc D (S ++ N) E) ∙ ap (λ (x : List ℕ). x ++ E) (sym (append_assoc D S N))

pub head_written : (index s n : ℕ) {l l₁ l₂ : List ℕ} {at p q : ℕ} → at + head_room ≤ length l → Began 3 longest_number (decimal index) l l₁ at p
    → Wrote longest_pair (field s ++ field n) l₁ l₂ p q → Wrote head_room (decimal index ++ field s ++ field n ++ (10 ∷ [])) l (set l₂ q 10) at (q + 1)
head_written index s n {l} {l₁} {l₂} {at} {p} {q} room u v =
    let a = u.few in
    let b = v.few in
    let c = u.kept in
    let d = v.kept in
    subst (λ (x : List ℕ). Wrote head_room x l (set l₂ q 10) at (q + 1)) (joined (decimal index) (field s) (field n) (10 ∷ []))
    (began_then (fields_long s n) u (wrote_then (omega arith) v (wrote_one l₂ q 10 (q + 1) (omega arith) refl)))

-- no line
pub nothing_written : (l : List ℕ) (at : ℕ) → Wrote head_room [] l l at at
nothing_written l at = record { octets = sym (written_none l at); behind = omega arith; few = omega arith; kept = refl }

pub refused_reply : (index s : ℕ) (a : Result Reply Refusal) (refusal : Refusal) → a ≡ Err refusal → (l : List ℕ) (at : ℕ) → Wrote head_room (reply_line index s a) l l at at
refused_reply index s a refusal e l at = subst (λ (x : Result Reply Refusal). Wrote head_room (reply_line index s x) l l at at) (sym e) (nothing_written l at)

-- the reply that the code found
pub reply_written : (index s : ℕ) (a : Result Reply Refusal) (reply x : Reply) (out out' : List ℕ) (at next : ℕ) → a ≡ Ok reply → reply ≡ x
    → Wrote head_room (reply_line {A = Refusal} index s (Ok x)) out out' at next → Wrote head_room (reply_line index s a) out out' at next
reply_written index s a reply x out out' at next e q w =
    subst (λ (y : Result Reply Refusal). Wrote head_room (reply_line index s y) out out' at next) (sym e)
    (subst (λ (y : Reply). Wrote head_room (reply_line {A = Refusal} index s (Ok y)) out out' at next) (sym q) w)

-- the number of a refusal is in no line
numbered_line : (index s : ℕ) (a : Result Reply Refusal) → reply_line index s a ≡ reply_line index s (numbered a)
numbered_line index s (Err refusal) = refl
numbered_line index s (Ok Begun) = refl
numbered_line index s (Ok (Sent n)) = refl
numbered_line index s (Ok (Took n size)) = refl

-- the line by the reply is that by the written answer
reply_line_lem : (index s c : ℕ) (a : PlainAnswer) → reply_line index s (reply_of a) ≡ head_line index (plain_take s c) a
reply_line_lem index s c (plain_refused r) = refl
reply_line_lem index s c plain_begun = refl
reply_line_lem index s c (plain_sent n) = refl
reply_line_lem index s c (plain_took n text) = refl

-- ONE CALL
none_made : (L : LentLists) (index : ℕ) (out : List ℕ) (at : ℕ) → ListsReady L → Answered L L none index out out at at
none_made L index out at R = record { ready = R; lists = refl; line = nothing_written out at }

silent : (L L' : LentLists) (call : PlainCall) (a : Result Reply Refusal) (index : ℕ) (out : List ℕ) (at : ℕ) → ((x : PlainAnswer) → head_line index call x ≡ []) → ListsReady L → ListsMet L L' call a
    → Answered L L' (some call) index out out at at
silent L L' call a index out at none_said R met =
    record {
      ready = stays_ready L L' call a R met;
      lists = met.lists;
      line = subst (λ (x : List ℕ). Wrote head_room x out out at at) (sym (append-nil (head_line index call (plain_answer limits (lists_in L) call)) ∙ none_said (plain_answer limits (lists_in L) call))) (nothing_written out at);
    }

pub start_made : (L L' : LentLists) (n k : ℕ) (a : Result Reply Refusal) (index : ℕ) (out : List ℕ) (at : ℕ) → ListsReady L → ListsMet L L' (plain_start n k) a → Answered L L' (some (plain_start n k)) index out out at at
start_made L L' n k a index out at = silent L L' (plain_start n k) a index out at (λ x. refl)

pub send_made : (L L' : LentLists) (s set : ℕ) (text : List ℕ) (a : Result Reply Refusal) (index : ℕ) (out : List ℕ) (at : ℕ) → ListsReady L → ListsMet L L' (plain_send s set text) a
    → Answered L L' (some (plain_send s set text)) index out out at at
send_made L L' s set text a index out at = silent L L' (plain_send s set text) a index out at (λ x. refl)

pub take_made : (L L' : LentLists) (s c : ℕ) (a : Result Reply Refusal) (index : ℕ) (out out' : List ℕ) (at next : ℕ) → ListsReady L → ListsMet L L' (plain_take s c) a
    → Wrote head_room (reply_line index s a) out out' at next → Answered L L' (some (plain_take s c)) index out out' at next
take_made L L' s c a index out out' at next R met line =
    let x = plain_answer limits (lists_in L) (plain_take s c) in
    record {
      ready = stays_ready L L' (plain_take s c) a R met;
      lists = met.lists;
      line = subst (λ (y : List ℕ). Wrote head_room y out out' at next) (numbered_line index s a ∙ ap (reply_line index s) met.answers ∙ reply_line_lem index s c x ∙ sym (append-nil (head_line index (plain_take s c) x))) line;
    }

-- ONE CALL MORE

-- the calls of n rows are n
pub made_length : (l : List ℕ) (C : ℕ → rust.Option Call) (n : ℕ) → length (made_by l C n) ≡ n
unfolding made_by
made_length l C zero = refl
made_length l C (suc n) = let z = length-append (made_by l C n) (made_in l (C n) ∷ []) in let y = made_length l C n in omega arith

fed_more : (M : Limits) (P : Plain) (calls : List (Option PlainCall)) (call : Option PlainCall) → plain_fed M P (calls ++ (call ∷ [])) ≡ fed M (plain_fed M P calls) call
unfolding plain_fed
fed_more M P [] call = refl
fed_more M P (x ∷ calls) call = fed_more M (fed M P x) calls call

exchanges_more : (M : Limits) (P : Plain) (index : ℕ) (calls : List (Option PlainCall)) (call : Option PlainCall)
    → exchanges_of M P index (calls ++ (call ∷ [])) ≡ exchanges_of M P index calls ++ exchanged M (plain_fed M P calls) (index + length calls) call
unfolding plain_fed exchanges_of
exchanges_more M P index [] call =
    let none_more : index ≡ index + 0 = omega arith in
    append-nil (exchanged M P index call) ∙ ap (λ (i : ℕ). exchanged M P i call) none_more
exchanges_more M P index (x ∷ calls) call =
    let one_more : suc index + length calls ≡ index + suc (length calls) = omega arith in
    ap (λ (y : List Exchange). exchanged M P index x ++ y) (exchanges_more M (fed M P x) (suc index) calls call)
    ∙ sym (append_assoc (exchanged M P index x) (exchanges_of M (fed M P x) (suc index) calls) (exchanged M (plain_fed M (fed M P x) calls) (suc index + length calls) call))
    ∙ ap (λ (i : ℕ). (exchanged M P index x ++ exchanges_of M (fed M P x) (suc index) calls) ++ exchanged M (plain_fed M (fed M P x) calls) i call) one_more

pub lines_more : (a b : List Exchange) → head_lines (a ++ b) ≡ head_lines a ++ head_lines b
lines_more [] b = refl
lines_more (x ∷ a) b = ap (λ (l : List ℕ). head_line x.index x.call x.answer ++ l) (lines_more a b) ∙ sym (append_assoc (head_line x.index x.call x.answer) (head_lines a) (head_lines b))

pub fed_first : (L : LentLists) (index : ℕ) (out : List ℕ) → ListsReady L → Fed (lists_in L) [] index L out out 0
unfolding plain_fed exchanges_of
fed_first L index out R = record { ready = R; lists = refl; size = refl; octets = sym (written_none out 0); kept = refl }

module _ (P : Plain) (calls : List (Option PlainCall)) (index : ℕ) (L : LentLists) (out₀ out : List ℕ) (at : ℕ) (f : Fed P calls index L out₀ out at) (here : at ≤ length out) where
  pub fed_next : (L' : LentLists) (call : Option PlainCall) (out' : List ℕ) (next : ℕ) → Answered L L' call (index + length calls) out out' at next
      → Fed P (calls ++ (call ∷ [])) index L' out₀ out' next
  fed_next L' call out' next m =
      let Q = plain_fed limits P calls in
      let before = head_lines (exchanges_of limits P index calls) in
      let line = head_lines (exchanged limits (lists_in L) (index + length calls) call) in
      let more : before ++ line ≡ head_lines (exchanges_of limits P index (calls ++ (call ∷ []))) =
      ap (λ (X : Plain). before ++ head_lines (exchanged limits X (index + length calls) call)) f.lists
      ∙ sym (lines_more (exchanges_of limits P index calls) (exchanged limits Q (index + length calls) call))
      ∙ ap head_lines (sym (exchanges_more limits P index calls call)) in
      let s = f.size in
      let k = f.kept in
      let zero_more : at ≡ 0 + length before = omega arith in
      record {
        ready = m.ready;
        lists = m.lists ∙ ap (λ (X : Plain). fed limits X call) f.lists ∙ sym (fed_more limits P calls call);
        size = m.line.behind ∙ (let z = length-append before line in let sums : at + length line ≡ length (before ++ line) = omega arith in sums) ∙ ap length more;
        octets = m.line.octets ∙ ap₂ (λ (x : List ℕ) (n : ℕ). written x n line) f.octets zero_more ∙ written_then out₀ 0 before line (omega arith) ∙ ap (written out₀ 0) more;
        kept = m.line.kept ∙ k;
      }

-- AS THE CODE MAKES THEM

-- the call that the code found
pub by_call : (l : List ℕ) (call : rust.Option Call) (found x : Call) (L L' : LentLists) (index : ℕ) (out out' : List ℕ) (at next : ℕ) → call ≡ rust.Some found → found ≡ x
    → Answered L L' (made_in l (rust.Some x)) index out out' at next → Answered L L' (made_in l call) index out out' at next
by_call l call found x L L' index out out' at next e q m =
    subst (λ (y : rust.Option Call). Answered L L' (made_in l y) index out out' at next) (sym e)
    (subst (λ (y : Call). Answered L L' (made_in l (rust.Some y)) index out out' at next) (sym q) m)

pub by_none : (l : List ℕ) (call : rust.Option Call) (L : LentLists) (index : ℕ) (out : List ℕ) (at : ℕ) → call ≡ rust.None → ListsReady L → Answered L L (made_in l call) index out out at at
by_none l call L index out at e R = subst (λ (y : rust.Option Call). Answered L L (made_in l y) index out out at at) (sym e) (none_made L index out at R)

-- a text is a part of the input
pub text_there : (n : ℕ) (call : rust.Option Call) (found : Call) (s : Station) (set from size : ℕ) → call ≡ rust.Some found → found ≡ Send s set from size → TextIn n call → from + size ≤ n
text_there n call found s set from size e q h = subst (λ (y : Call). TextIn n (rust.Some y)) q (subst (TextIn n) e h)

pub part_sent : (l : List ℕ) (from size : ℕ) (L L' : LentLists) (s set : ℕ) (a : Result Reply Refusal) (index : ℕ) (out : List ℕ) (at : ℕ) → ListsReady L
    → ListsMet L L' (plain_send s set (take (from + size - from) (drop from l))) a → Answered L L' (some (plain_send s set (take size (drop from l)))) index out out at at
part_sent l from size L L' s set a index out at R met =
    let all : from + size - from ≡ size = omega arith in
    send_made L L' s set (take size (drop from l)) a index out at R (subst (λ (n : ℕ). ListsMet L L' (plain_send s set (take n (drop from l))) a) all met)

-- a turn of the loop
pub fed_turn : (P : Plain) (l : List ℕ) (C : ℕ → rust.Option Call) (row index : ℕ) (L : LentLists) (out₀ out : List ℕ) (at : ℕ) → Fed P (made_by l C row) index L out₀ out at → at ≤ length out
    → (L' : LentLists) (call : rust.Option Call) (out' : List ℕ) (next : ℕ) → call ≡ C row → Answered L L' (made_in l call) (index + row) out out' at next
    → Fed P (made_by l C (row + 1)) index L' out₀ out' next
unfolding made_by
fed_turn P l C row index L out₀ out at f here L' call out' next e m =
    let one : suc row ≡ row + 1 = omega arith in
    let there : index + row ≡ index + length (made_by l C row) = ap (λ (n : ℕ). index + n) (sym (made_length l C row)) in
    let m' = subst (λ (n : ℕ). Answered L L' (made_in l (C row)) n out out' at next) there (subst (λ (x : rust.Option Call). Answered L L' (made_in l x) (index + row) out out' at next) e m) in
    subst (λ (n : ℕ). Fed P (made_by l C n) index L' out₀ out' next) one (fed_next P (made_by l C row) index L out₀ out at f here L' (made_in l (C row)) out' next m')

-- before the first one
pub fed_none : (l : List ℕ) (C : ℕ → rust.Option Call) (L : LentLists) (index : ℕ) (out : List ℕ) → ListsReady L → Fed (lists_in L) (made_by l C 0) index L out out 0
unfolding made_by
fed_none l C L index out R = fed_first L index out R
