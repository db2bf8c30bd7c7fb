-- "no run from a start holds one now": every held message has a text that is not empty; kept by every event.
use mathlib.Core.Path.{subst, sym, ◌∙◌, ◌≡◌}
use mathlib.Core.Bool.{false, true}
use mathlib.Core.List.{List, [], ◌∷◌}
use Prim.Native.Nat.{ℕ}
use lib.Dec.{eqb}
use Rattle.protocol.specs.Folds.{is_empty}
use Rattle.protocol.specs.CartSets.{union}
use Rattle.protocol.specs.Floor.{Floor, Limits, Record, ack_list, delete, deregister, multicast, register}
use Rattle.protocol.specs.Events.{Done, Event}
use Rattle.protocol.specs.Groups.{on_group}
use Rattle.protocol.specs.Handoff.{arrive, entry_of, on_enter, on_flag, on_move, on_register, on_retire, room_of, struck}
use Rattle.protocol.specs.Wired.{buffer, handle, multicast_by_row, on_ack_list, on_delete, on_multicast, unbuffer, with_message}
use Rattle.protocol.specs.Wireless.{all_acked, hand_over, receive, send_acks, send_acks_if_all}
use Rattle.protocol.specs.Deregister.{leave}
use Rattle.protocol.specs.Step.{floor_after, step}
use Rattle.protocol.proofs.Tests.{by_test, on_cond, on_option}
use Rattle.protocol.proofs.SetLaws.{still_waited}
use Rattle.protocol.proofs.InOrder.{completed, deregister_is, send_each_is}
use Rattle.protocol.proofs.Accepted.{MaySend, by_step, unlined}
use Rattle.protocol.proofs.CatchUp.{arrive_at_once, one_at_once}
use Rattle.protocol.proofs.Demand3.{step_size}

-- each room that is taken has a text, by columns: waiting, text
abbrev pub Texts : (ℕ → ℕ) → (ℕ → List ℕ) → Type 0
Texts waiting text = (m : ℕ) → eqb (waiting m) 0 ≡ false → is_empty (text m) ≡ false

-- the same of a floor
abbrev pub AllTexts : Floor → Type 0
AllTexts F = Texts F.waiting F.text

module _ (M : Limits) (F : Floor) (T : AllTexts F) where
  sent_text : (s set : ℕ) (text : List ℕ) (m : ℕ) → MaySend M F s set text m → AllTexts (with_message F m s set text)
  unfolding with_message
  sent_text s set text m may k = by_test (eqb k m) (λ q. rw q (λ e. may.has_text)) (λ q. rw q (T k))

  -- a message that is still held has its text; one that is not has none, and none is asked
  deleted_text : (m t : ℕ) → AllTexts (unbuffer F m t)
  deleted_text m t k =
      by_test (eqb k m)
      (λ q. rw q (λ e. rw e (T m (still_waited (F.waiting m) t e))))
      (λ q. rw q (T k))

  arrived_text : (t c : ℕ) (row : ℕ → ℕ) → AllTexts (arrive M F t c row)
  unfolding struck
  arrived_text t c row = rw (arrive_at_once M F t c row) T

  abbrev HasTexts : Done → Type 0
  HasTexts d = AllTexts d.floor

  handled_text : (i j : ℕ) (r : Record) → HasTexts (handle M F i j r)
  unfolding handle on_multicast multicast_by_row on_ack_list on_delete leave on_register buffer
  handled_text i j (multicast n) = on_option HasTexts (room_of M F i n) (λ e. T) (λ m e. T)
  handled_text i j (ack_list n set) =
      on_option HasTexts (room_of M F j n) (λ e. T) (λ m e. on_cond HasTexts (eqb (union (F.acked m) set) (F.named m)) (λ b. T) (λ b. T))
  handled_text i j (delete n) = on_option HasTexts (room_of M F i n) (λ e. T) (λ m e. deleted_text m j)
  handled_text i j (deregister c) =
      rw (deregister_is M F i j c) (subst (λ (X : Floor). AllTexts X) (sym (send_each_is (leave F i j c) j (completed M F i j c))) T)
  handled_text i j (register c row) = arrived_text j c (entry_of row)

-- every event keeps it
step_text : (M : Limits) (F : Floor) → F.started ≡ true → AllTexts F → (e : Event) → AllTexts (step M F e)
unfolding on_enter on_flag on_retire on_group on_move hand_over receive send_acks
step_text M F begun T =
    by_step M F (λ e X a. AllTexts X) begun (λ e r. T) (λ t c may. arrived_text M F T t c (λ s. 0)) (λ s set text m may. sent_text M F T s set text m may)
    (λ i j r l may. handled_text M (unlined F i j) T i j r)
    (λ t c buffer m may. rw (one_at_once M (send_acks_if_all (receive F m t c) m t) t c (F.initiator m))
    (on_cond (λ (X : Floor). AllTexts X) (all_acked (receive F m t c) m t) (λ b. T) (λ b. T)))
    (λ c to may. T)
    (λ c b may. T)
    (λ c may. T)
    (λ g set may. T)
    (λ s g text m may. sent_text M F T s (F.groups g) text m may)
    (λ s set text m may. sent_text M F T s set text m may)

-- and every run
pub texts_after : (M : Limits) (F : Floor) → F.started ≡ true → AllTexts F → (es : List Event) → AllTexts (floor_after M F es)
unfolding floor_after
texts_after M F begun T [] = T
texts_after M F begun T (e ∷ es) = texts_after M (step M F e) ((step_size M F begun e).started ∙ begun) (step_text M F begun T e) es
