-- A GROUP MEETS ITS EVENT: what the code asks on the way, and what it leaves.
use mathlib.Core.Path.{◌≡◌, refl, sym, ap, ◌∙◌}
use mathlib.Core.Bool.{Bool, true, false}
use mathlib.Core.List.{List}
use Prim.Native.Nat.{ℕ, zero, suc, ◌*◌, ◌^◌, ◌≤◌, ◌<◌}
use native.Mathlib.Omega.{arith}
use lib.ListN.{length}
use Rattle.protocol.specs.Folds.{count}
use Rattle.protocol.specs.CartSets.{has}
use Rattle.protocol.specs.Floor.{Product, limits_of}
use Rattle.protocol.specs.Groups.{group_count, members_of, on_group}
use Rattle.protocol.specs.Events.{group}
use Rattle.protocol.specs.Form.{passes_form}
use Rattle.protocol.specs.Refusals.{refusal_if}
use Rattle.protocol.specs.Step.{accept}
use Rattle.protocol.proofs.Tests.{by_eq}
use Rattle.protocol.proofs.SetLaws.{no_member}
use Rattle.protocol.proofs.Accepted.{MayGroup, may_group}
use Rattle.sets.specs.Masks.{size}
use Rattle.stations.specs.View.{HasHead, Stations, head_in, stations_in, with_group}
use Rattle.carts.specs.View.{carts_in}
use Rattle.messages.specs.View.{rooms_in}
use Rattle.store.specs.Texts.{text_of}
use Rattle.view.specs.Records.{lines_in}
use Rattle.view.specs.View.{Lent, lent, floor_of, floor_in}
use Rattle.view.proofs.Lengths.{Lengths, lengths_right_lem}
use Rattle.view.proofs.Laid.{Laid, words_right_lem, laid_stations}
use Rattle.view.proofs.Standing.{Standing, standing, few_carts}
use Rattle.reports.specs.declared.Effect.{Effect}
use Rattle.reports.specs.Effects.{nothing}
use Rattle.event_answers.specs.Answers.{says}
use Rattle.event_answers.specs.Met.{Met}
use Rattle.event_answers.proofs.Meets.{refusal_standing, meets_done, meets_counted}

-- THE NUMBER OF MEMBERS: a set of the first k has as many among the first n
count_within : (k n : ℕ) (f : ℕ → Bool) → ((c : ℕ) → k ≤ c → f c ≡ false) → k ≤ n → count n f ≡ count k f
unfolding count
count_within k zero f none l = let e : 0 ≡ k = omega arith in ap (λ (m : ℕ). count m f) e
count_within k (suc n) f none l =
    by_eq k (suc n)
    (λ e. ap (λ (m : ℕ). count m f) (sym e))
    (λ e. let z = count_within k n f none (omega arith) in rw (none n (omega arith)) (omega arith))

members_counted : (k n set : ℕ) → set < 2 ^ k → k ≤ n → size n set ≡ count k (has set)
unfolding size
members_counted k n set low few = count_within k n (has set) (λ c l. no_member k set c low l) few

module _ (P : Product) (S C M W T O : List ℕ) (p : passes_form (limits_of P) (floor_in (lent P S C M W T O)) ≡ true) where
  abbrev L : Lent
  L = lent P S C M W T O

  X : Standing L
  X = standing L p

  pub checks_asked : HasHead S × ((head_in S).carts * 19 ≤ length C) × ((head_in S).carts ≤ 64)
  checks_asked =
      let a = X.lengths.stations in
      let q = X.lengths.carts in
      let e = X.sized.counts.carts in
      (omega arith, omega arith, few_carts L X)

  module _ (g set : ℕ) (r : ℕ) (told : r ≡ refusal_if (limits_of P) (floor_in L) false (group g set)) (none_applied : r ≡ 0) where
    free : refusal_if (limits_of P) (floor_in L) false (group g set) ≡ 0
    free = sym told ∙ none_applied

    may : MayGroup (floor_in L) g set
    may = may_group (limits_of P) (floor_in L) g set (rw p free)

    pub group_asked : HasHead S × (g < group_count)
    group_asked = (checks_asked.0, may.number)

    -- S with the group's other members is S'
    module _ (S' : List ℕ) (top : head_in S' ≡ with_group (head_in S) g set) (stations : stations_in S' ≡ stations_in S) (words : length S' ≡ length S) where
      abbrev L' : Lent
      L' = lent P S' C M W T O

      lengths : Lengths L'
      lengths =
          record {
            stations = words ∙ X.lengths.stations;
            carts = X.lengths.carts;
            messages = X.lengths.messages;
            lines = X.lengths.lines;
            texts = X.lengths.texts;
            store = X.lengths.store;
          }

      laid : Laid L'
      laid =
          laid_stations S C M W T O X.laid S' (λ t l. ap (λ (Y : Stations). Y.local t) stations)
          (λ t m lt lm l. let was = X.laid.few t m lt lm l in
          (ap (λ (Y : Stations). Y.copy m t) stations ∙ was.0, ap (λ (Y : Stations). Y.queue m t) stations ∙ was.1))

      -- the group has these members, and all else is as it was
      group_is : floor_in L' ≡ (on_group (floor_in L) g set).floor
      unfolding on_group
      group_is =
          λ i. floor_of ((lengths_right_lem L' lengths ∙ sym (lengths_right_lem L X.lengths)) i) ((words_right_lem L' laid ∙ sym (words_right_lem L X.laid)) i)
          (top i) (stations i) (carts_in C) (rooms_in M) (text_of T O (rooms_in M)) (lines_in W)

      -- "Kind 7 prints group and number of members"
      members_are : (n : ℕ) → n ≡ size 64 set → n ≡ members_of (floor_in L) set
      unfolding members_of
      members_are n e = e ∙ members_counted (head_in S).carts 64 set may.carts (few_carts L X)

      pub meets_group : (n : ℕ) (f : Effect) → n ≡ size 64 set → f ≡ nothing → Met L L' (group g set) (says 7 g n f)
      unfolding accept on_group
      meets_group n f e counted =
          meets_counted L L' (group g set) 7 g n f nothing counted
          (rw (members_are n e) (meets_done L (group g set) L' _ refl (refusal_standing L (group g set) p ∙ free) group_is refl))
