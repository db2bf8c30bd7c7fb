-- A RUN OF CALLS IS THE WRITTEN RUN over the same events, so demand 3 speaks of it.
use mathlib.Core.Path.{◌≡◌, refl, sym, ap, ap₂, ◌∙◌, subst}
use mathlib.Core.Bool.{true, false}
use mathlib.Core.List.{List, [], ◌∷◌, map}
use Prim.Native.Nat.{ℕ, ◌<◌}
use native.Mathlib.Omega.{arith}
use Rattle.protocol.specs.Floor.{Product, Limits, limits_of, Floor, is_held}
use Rattle.protocol.specs.Events.{Event, Answer, Report, start, accepted}
use Rattle.protocol.specs.Groups.{as_sent}
use Rattle.protocol.specs.Step.{step, answer, floor_after, answers}
use Rattle.protocol.specs.TwoLists.{Lists, both_empty, lists_step, lists_after, owes, TwoListRule}
use Rattle.protocol.specs.Quiet.{quiet_steps, quiet_floor, quiet_events, most_steps}
use Rattle.protocol.proofs.QuietCall.{call_ran}
use Rattle.protocol.proofs.LiveRun.{floor_after_more}
use Rattle.protocol.specs.Route.{sendings_of, retires_none}
use Rattle.protocol.proofs.Theorems.{two_list_rule, same_received, form_reached, reached_quiet_bound, quiet_at_last, quiet_holds_none, quiet_lists_equal}
use Rattle.view.specs.View.{Lent, floor_in}
use Rattle.event_answers.specs.Met.{Met}
use Rattle.std.specs.Prelude.{Ok}
use Rattle.dispatcher.specs.Called.{QuietMet}
use Rattle.tested_events.specs.Run.{Call, Calls, left_by, lists_of, events_of, RunIs, EndsQuiet}

-- the floor
pub floor_of_calls : (L : Lent) (ks : List Call) → Calls L ks → floor_in (left_by L ks) ≡ floor_after (limits_of L.product) (floor_in L) (events_of ks)
unfolding Calls left_by floor_after
floor_of_calls L [] h = refl
floor_of_calls L (k ∷ ks) h = floor_of_calls k.left ks h.1 ∙ ap₂ (λ (P : Product) (F : Floor). floor_after (limits_of P) F (events_of ks)) h.0.product h.0.floor

-- the answers
pub answers_of_calls : (L : Lent) (ks : List Call) → Calls L ks → map (λ (k : Call). k.answered) ks ≡ answers (limits_of L.product) (floor_in L) (events_of ks)
unfolding Calls answers
answers_of_calls L [] h = refl
answers_of_calls L (k ∷ ks) h =
    ap₂ (λ (a : Answer) (l : List Answer). a ∷ l) h.0.answers
    (answers_of_calls k.left ks h.1 ∙ ap₂ (λ (P : Product) (F : Floor). answers (limits_of P) F (events_of ks)) h.0.product h.0.floor)

-- the two lists
pub lists_of_calls : (L : Lent) (l : Lists) (ks : List Call) → Calls L ks
    → lists_of (limits_of L.product) (floor_in L) l ks ≡ lists_after (limits_of L.product) (floor_in L) l (events_of ks)
unfolding Calls lists_of lists_after
lists_of_calls L l [] h = refl
lists_of_calls L l (k ∷ ks) h =
    let sent = as_sent (floor_in L) k.event in
    (λ i. lists_of (limits_of (sym h.0.product i)) (sym h.0.floor i) (lists_step sent k.answered l) ks)
    ∙ lists_of_calls k.left (lists_step sent k.answered l) ks h.1
    ∙ (λ i. lists_after (limits_of (h.0.product i)) (h.0.floor i) (lists_step sent (h.0.answers i) l) (events_of ks))

-- ALL IN ONE: a start was accepted on whatever was lent (L₀) and left L, and then every call was handed what the last one left
pub run_is : (L₀ L : Lent) (n k : ℕ) (l : Report) → Met L₀ L (start n k) (accepted l) → (ks : List Call) → Calls L ks → RunIs L k ks
run_is L₀ L n k l begun ks calls =
    record {
      floor = floor_of_calls L ks calls;
      answered = answers_of_calls L ks calls;
      two_lists = λ s c lc.
          let rule = two_list_rule (limits_of L₀.product) (floor_in L₀) n k l (sym begun.answers) (events_of ks) s c lc in
          let there : Product → Floor → Type 0 = λ P F. TwoListRule (owes (limits_of P) (floor_after (limits_of P) F (events_of ks)) s c) ((lists_after (limits_of P) F both_empty (events_of ks)).sent s c) ((lists_after (limits_of P) F both_empty (events_of ks)).received s c) in
          subst (λ (m : Lists). TwoListRule (owes (limits_of L.product) (floor_after (limits_of L.product) (floor_in L) (events_of ks)) s c) (m.sent s c) (m.received s c)) (sym (lists_of_calls L both_empty ks calls))
          (subst (λ (P : Product). there P (floor_in L)) (sym begun.product) (subst (there L₀.product) (sym begun.floor) rule));
    }

-- the calls are for one product
product_of_calls : (L : Lent) (ks : List Call) → Calls L ks → (left_by L ks).product ≡ L.product
unfolding Calls left_by
product_of_calls L [] h = refl
product_of_calls L (k ∷ ks) h = product_of_calls k.left ks h.1 ∙ h.0.product

-- CLOSING TIME, of the written floor
written_end : (M : Limits) (F : Floor) (n k : ℕ) (l : Report) → answer M F (start n k) ≡ accepted l → (es : List Event)
    → (Q : Floor) → Q ≡ quiet_floor M (floor_after M (step M F (start n k)) es) → (steps : ℕ) → steps ≡ quiet_steps M (floor_after M (step M F (start n k)) es)
    → EndsQuiet M (step M F (start n k)) k es Q steps
unfolding quiet_events
written_end M F n k l a es Q q steps c =
    let X = step M F (start n k) in
    let f = form_reached M F n k l a es in
    record {
      floor = q ∙ sym (floor_after_more M X es (quiet_events M (floor_after M X es)));
      bound = let b = reached_quiet_bound M F n k l a es (most_steps M) in omega arith;
      over = rw q (quiet_at_last M (floor_after M X es) f.0 f.1);
      none_held = λ s m lm. rw q (quiet_holds_none M F n k l a es s m lm);
      equal = quiet_lists_equal M F n k l a es;
    }

-- and of calls: a start was accepted, calls followed, and then the floor was run until it is quiet
pub ends_quiet : (L₀ L : Lent) (n k : ℕ) (l : Report) → Met L₀ L (start n k) (accepted l) → (ks : List Call) → Calls L ks
    → (L' : Lent) (buffer buffer' : List ℕ) (steps : ℕ) → QuietMet (left_by L ks) L' buffer buffer' (Ok steps)
    → EndsQuiet (limits_of L.product) (floor_in L) k (events_of ks) (floor_in L') steps
ends_quiet L₀ L n k l begun ks calls L' buffer buffer' steps met =
    let ran = call_ran (limits_of (left_by L ks).product) (floor_in (left_by L ks)) buffer steps (sym met.answers) in
    let product = product_of_calls L ks calls ∙ begun.product in
    let floor = floor_of_calls L ks calls ∙ ap₂ (λ (P : Product) (F : Floor). floor_after (limits_of P) F (events_of ks)) begun.product begun.floor in
    let here = written_end (limits_of L₀.product) (floor_in L₀) n k l (sym begun.answers) (events_of ks)
    (floor_in L') (met.floor ∙ ran.1 ∙ ap₂ (λ (P : Product) (F : Floor). quiet_floor (limits_of P) F) product floor)
    steps (ran.0 ∙ ap₂ (λ (P : Product) (F : Floor). quiet_steps (limits_of P) F) product floor) in
    subst (λ (P : Product). EndsQuiet (limits_of P) (floor_in L) k (events_of ks) (floor_in L') steps) (sym begun.product)
    (subst (λ (X : Floor). EndsQuiet (limits_of L₀.product) X k (events_of ks) (floor_in L') steps) (sym begun.floor) here)

-- THE ROUTE MUST NOT MATTER, of two runs of calls for one product, each behind an accepted start of n stations and k carts: where no cart was retired, each
-- station made the same accepted sends in both, and no message is held on either floor that they left, every cart has received the same. Answers and
-- floors are the written ones (`run_is`), so what was accepted, sent to whom, and is held, is said by the written run over the calls' events
pub same_received_by_calls : (L₀ L K₀ K : Lent) (n k : ℕ) (l r : Report) → L₀.product ≡ K₀.product → Met L₀ L (start n k) (accepted l) → Met K₀ K (start n k) (accepted r)
    → (ks js : List Call) → Calls L ks → Calls K js
    → retires_none (limits_of L.product) (floor_in L) (events_of ks) ≡ true → retires_none (limits_of K.product) (floor_in K) (events_of js) ≡ true
    → ((u : ℕ) → sendings_of (limits_of L.product) (floor_in L) (events_of ks) u ≡ sendings_of (limits_of K.product) (floor_in K) (events_of js) u)
    → ((m : ℕ) → m < L.product.held → is_held (floor_in (left_by L ks)) m ≡ false) → ((m : ℕ) → m < K.product.held → is_held (floor_in (left_by K js)) m ≡ false)
    → (s c : ℕ) → c < k
    → (lists_of (limits_of L.product) (floor_in L) both_empty ks).received s c ≡ (lists_of (limits_of K.product) (floor_in K) both_empty js).received s c
same_received_by_calls L₀ L K₀ K n k l r one begun begun' ks js calls calls' stay stay' same none none' s c lc =
    ap (λ (x : Lists). x.received s c) (lists_of_calls L both_empty ks calls)
    ∙ written begun.product begun.floor (begun'.product ∙ sym one) (begun'.floor ∙ ap (λ (P : Product). step (limits_of P) (floor_in K₀) (start n k)) (sym one))
    stay stay' (λ u. same u) (held_none L ks calls none) (held_none K js calls' none')
    ∙ sym (ap (λ (x : Lists). x.received s c) (lists_of_calls K both_empty js calls'))
  where
    held_none : (X : Lent) (xs : List Call) → Calls X xs → ((m : ℕ) → m < X.product.held → is_held (floor_in (left_by X xs)) m ≡ false)
        → (m : ℕ) → m < X.product.held → is_held (floor_after (limits_of X.product) (floor_in X) (events_of xs)) m ≡ false
    held_none X xs h q m lm = ap (λ (F : Floor). is_held F m) (sym (floor_of_calls X xs h)) ∙ q m lm

    -- in the numbers of the first start's product
    written : {P Q : Product} {F G : Floor} → P ≡ L₀.product → F ≡ step (limits_of L₀.product) (floor_in L₀) (start n k)
        → Q ≡ L₀.product → G ≡ step (limits_of L₀.product) (floor_in K₀) (start n k)
        → retires_none (limits_of P) F (events_of ks) ≡ true → retires_none (limits_of Q) G (events_of js) ≡ true
        → ((u : ℕ) → sendings_of (limits_of P) F (events_of ks) u ≡ sendings_of (limits_of Q) G (events_of js) u)
        → ((m : ℕ) → m < P.held → is_held (floor_after (limits_of P) F (events_of ks)) m ≡ false)
        → ((m : ℕ) → m < Q.held → is_held (floor_after (limits_of Q) G (events_of js)) m ≡ false)
        → (lists_after (limits_of P) F both_empty (events_of ks)).received s c ≡ (lists_after (limits_of Q) G both_empty (events_of js)).received s c
    written p f q g t t' a b d =
        let u = rw (p, f) at t in
        let u' = rw (q, g) at t' in
        let a' = rw (p, f, q, g) at a in
        let b' = rw (p, f) at b in
        let d' = rw (q, g) at d in
        rw (p, f, q, g)
        (same_received (limits_of L₀.product) (floor_in L₀) (floor_in K₀) n k l r (sym begun.answers) (sym (begun'.answers ∙ ap (λ (P : Product). answer (limits_of P) (floor_in K₀) (start n k)) (sym one)))
        (events_of ks) (events_of js) u u' a' b' d' s c lc)
