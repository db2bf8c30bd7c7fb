-- `frame_run::dispatch` meets its contract.
use mathlib.Core.Path.{sym, ap, ◌∙◌, subst}
use Prim.Native.Nat.{ℕ, ◌+◌, ◌≤◌}
use native.Mathlib.Omega.{arith}
use lib.ListN.{length, drop}
use Rattle.protocol.specs.Floor.{Product}
use Rattle.view.specs.View.{lent}
use Rattle.frames.specs.declared.Event.{Event}
use Rattle.frames.specs.Decoded.{event_in, size_of, TextFits}
use Rattle.frame_run.proofs.Events.{send_is, send_group_is, send_long_is, short_part, long_part, numbers_fit, some_part, answered_plainly, answered_text}
use Rattle.protocol.specs.Printed.{decimal}
use Rattle.frame_lines.specs.Lines.{Began, longest_number}
use Rattle.frame_run.specs.declared.Dispatched.{Dispatched}
use Rattle.frame_run.proofs.dispatch.Goals as goal

pub start-answer-requires : goal.start-answer-requires
start-answer-requires c = numbers_fit c.requires.can_run.1.0 _ c.requires.can_run.1.1

pub enter-answer-requires : goal.enter-answer-requires
enter-answer-requires c = (c.requires.can_run.1.0, c.requires.can_run.1.2)

pub overflow_add-text : goal.overflow_add-text
overflow_add-text c =
    let q = ap size_of c.in-Send.is in
    let h = c.requires.e_in_bounds.0 in
    omega (arith, q, h)

pub slice_bounds-text-end : goal.slice_bounds-text-end
slice_bounds-text-end c =
    let q = ap size_of c.in-Send.is in
    let h = c.requires.e_in_bounds.0 in
    omega (arith, q, h)

pub send-answer-requires : goal.send-answer-requires
send-answer-requires c =
    let a = c.args in
    record {
      ready_with = c.requires.can_run.1;
      text_len_bound = short_part a.input.now a.at c.in-Send.size (subst TextFits c.in-Send.is c.requires.e_in_bounds.1);
    }

pub overflow_add-size : goal.overflow_add-size
overflow_add-size c =
    let q = ap size_of c.in-Send.is in
    omega (arith, q, c.requires.e_in_bounds.0)

pub wire-answer-requires : goal.wire-answer-requires
wire-answer-requires c = (c.requires.can_run.1.0, c.requires.can_run.1.2)

pub radio-handed-requires : goal.radio-handed-requires
radio-handed-requires c = (c.requires.can_run.1.0, c.requires.can_run.1.2)

pub move_cart-answer-requires : goal.move_cart-answer-requires
move_cart-answer-requires c = (c.requires.can_run.1.0, c.requires.can_run.1.2)

pub flag_cart-answer-requires : goal.flag_cart-answer-requires
flag_cart-answer-requires c = (c.requires.can_run.1.0, c.requires.can_run.1.2)

pub define_group-answer-requires : goal.define_group-answer-requires
define_group-answer-requires c = (c.requires.can_run.1.0, c.requires.can_run.1.2)

pub overflow_add-text-in-SendGroup : goal.overflow_add-text-in-SendGroup
overflow_add-text-in-SendGroup c =
    let q = ap size_of c.in-SendGroup.is in
    let h = c.requires.e_in_bounds.0 in
    omega (arith, q, h)

pub slice_bounds-text-end-in-SendGroup : goal.slice_bounds-text-end-in-SendGroup
slice_bounds-text-end-in-SendGroup c =
    let q = ap size_of c.in-SendGroup.is in
    let h = c.requires.e_in_bounds.0 in
    omega (arith, q, h)

pub send_group-answer-requires : goal.send_group-answer-requires
send_group-answer-requires c =
    let a = c.args in
    record {
      ready_with = c.requires.can_run.1;
      text_len_bound = short_part a.input.now a.at c.in-SendGroup.size (subst TextFits c.in-SendGroup.is c.requires.e_in_bounds.1);
    }

pub overflow_add-size-in-SendGroup : goal.overflow_add-size-in-SendGroup
overflow_add-size-in-SendGroup c =
    let q = ap size_of c.in-SendGroup.is in
    omega (arith, q, c.requires.e_in_bounds.0)

pub overflow_add-text-in-SendLong : goal.overflow_add-text-in-SendLong
overflow_add-text-in-SendLong c =
    let q = ap size_of c.in-SendLong.is in
    let h = c.requires.e_in_bounds.0 in
    omega (arith, q, h)

pub slice_bounds-text-end-in-SendLong : goal.slice_bounds-text-end-in-SendLong
slice_bounds-text-end-in-SendLong c =
    let q = ap size_of c.in-SendLong.is in
    let h = c.requires.e_in_bounds.0 in
    omega (arith, q, h)

pub send_long-answer-requires : goal.send_long-answer-requires
send_long-answer-requires c =
    let a = c.args in
    record {
      ready_with = c.requires.can_run.1;
      in_bounds = long_part a.input.now a.at c.in-SendLong.size (subst TextFits c.in-SendLong.is c.requires.e_in_bounds.1) (subst (λ (e : Event). a.at + size_of e ≤ length a.input.now) c.in-SendLong.is c.requires.e_in_bounds.0);
    }

pub overflow_add-size-in-SendLong : goal.overflow_add-size-in-SendLong
overflow_add-size-in-SendLong c =
    let q = ap size_of c.in-SendLong.is in
    omega (arith, q, c.requires.e_in_bounds.0)

pub retire-answer-requires : goal.retire-answer-requires
retire-answer-requires c = (c.requires.can_run.1.0, c.requires.can_run.1.2)

pub shape_of-output-in-Start : goal.shape_of-output-in-Start
shape_of-output-in-Start c = c.put_index-next.ensures.kept

pub returns-in-Start : goal.returns-in-Start
returns-in-Start c =
    let a = c.args in
    let began = subst (λ (n : ℕ). Began 3 longest_number (decimal a.index) a.output.now c.put_index-next.new.out a.line n) (sym (ap (λ (r : Dispatched). r.next) c.without_text.ensures)) c.put_index-next.ensures in
    record {
      within = answered_plainly a.bounds (λ (P : Product). lent P a.stations.now a.carts.now a.messages.now a.lines.now a.texts.now a.store.now) _ _ _ (ap (event_in (drop a.at a.input.now)) c.in-Start.is) _ a.texts.now _ (some_part a.bounds _ _ _ _ _ _ c.requires.can_run) c.start-answer.result _ _ c.without_text.result c.without_text.ensures (λ P n R. c.start-answer.ensures P n);
      began = (began, ap (λ (r : Dispatched). r.taken) c.without_text.ensures ∙ sym (ap size_of c.in-Start.is));
    }

pub returns-in-Enter : goal.returns-in-Enter
returns-in-Enter c =
    let a = c.args in
    let began = subst (λ (n : ℕ). Began 3 longest_number (decimal a.index) a.output.now c.put_index-next.new.out a.line n) (sym (ap (λ (r : Dispatched). r.next) c.without_text-in-Enter.ensures)) c.put_index-next.ensures in
    record {
      within = answered_plainly a.bounds (λ (P : Product). lent P a.stations.now a.carts.now a.messages.now a.lines.now a.texts.now a.store.now) _ _ _ (ap (event_in (drop a.at a.input.now)) c.in-Enter.is) _ a.texts.now _ (some_part a.bounds _ _ _ _ _ _ c.requires.can_run) c.enter-answer.result _ _ c.without_text-in-Enter.result c.without_text-in-Enter.ensures (λ P n R. c.enter-answer.ensures P R);
      began = (began, ap (λ (r : Dispatched). r.taken) c.without_text-in-Enter.ensures ∙ sym (ap size_of c.in-Enter.is));
    }

pub shape_of-output-in-Send : goal.shape_of-output-in-Send
shape_of-output-in-Send c = c.put_index-next.ensures.kept

pub shape_of-output-in-Wire : goal.shape_of-output-in-Wire
shape_of-output-in-Wire c = c.put_index-next.ensures.kept

pub returns-in-Wire : goal.returns-in-Wire
returns-in-Wire c =
    let a = c.args in
    let began = subst (λ (n : ℕ). Began 3 longest_number (decimal a.index) a.output.now c.put_index-next.new.out a.line n) (sym (ap (λ (r : Dispatched). r.next) c.without_text-in-Wire.ensures)) c.put_index-next.ensures in
    record {
      within = answered_plainly a.bounds (λ (P : Product). lent P a.stations.now a.carts.now a.messages.now a.lines.now a.texts.now a.store.now) _ _ _ (ap (event_in (drop a.at a.input.now)) c.in-Wire.is) _ a.texts.now _ (some_part a.bounds _ _ _ _ _ _ c.requires.can_run) c.wire-answer.result _ _ c.without_text-in-Wire.result c.without_text-in-Wire.ensures (λ P n R. c.wire-answer.ensures P R);
      began = (began, ap (λ (r : Dispatched). r.taken) c.without_text-in-Wire.ensures ∙ sym (ap size_of c.in-Wire.is));
    }

pub returns-in-Radio : goal.returns-in-Radio
returns-in-Radio c =
    let a = c.args in
    record {
      within = answered_text a.bounds (λ (P : Product). lent P a.stations.now a.carts.now a.messages.now a.lines.now a.texts.now a.store.now) _ _ _ (ap (event_in (drop a.at a.input.now)) c.in-Radio.is) _ a.texts.now _ c.radio-handed.result c.put_index-next.result 16 _ c.done_with_text.ensures c.radio-handed.ensures.lies (λ P n R. c.radio-handed.ensures.met_by_each P R);
      began = (c.put_index-next.ensures, sym (ap size_of c.in-Radio.is));
    }

pub returns-in-Move : goal.returns-in-Move
returns-in-Move c =
    let a = c.args in
    let began = subst (λ (n : ℕ). Began 3 longest_number (decimal a.index) a.output.now c.put_index-next.new.out a.line n) (sym (ap (λ (r : Dispatched). r.next) c.without_text-in-Move.ensures)) c.put_index-next.ensures in
    record {
      within = answered_plainly a.bounds (λ (P : Product). lent P a.stations.now a.carts.now a.messages.now a.lines.now a.texts.now a.store.now) _ _ _ (ap (event_in (drop a.at a.input.now)) c.in-Move.is) _ a.texts.now _ (some_part a.bounds _ _ _ _ _ _ c.requires.can_run) c.move_cart-answer.result _ _ c.without_text-in-Move.result c.without_text-in-Move.ensures (λ P n R. c.move_cart-answer.ensures P R);
      began = (began, ap (λ (r : Dispatched). r.taken) c.without_text-in-Move.ensures ∙ sym (ap size_of c.in-Move.is));
    }

pub returns-in-Flag : goal.returns-in-Flag
returns-in-Flag c =
    let a = c.args in
    let began = subst (λ (n : ℕ). Began 3 longest_number (decimal a.index) a.output.now c.put_index-next.new.out a.line n) (sym (ap (λ (r : Dispatched). r.next) c.without_text-in-Flag.ensures)) c.put_index-next.ensures in
    record {
      within = answered_plainly a.bounds (λ (P : Product). lent P a.stations.now a.carts.now a.messages.now a.lines.now a.texts.now a.store.now) _ _ _ (ap (event_in (drop a.at a.input.now)) c.in-Flag.is) _ a.texts.now _ (some_part a.bounds _ _ _ _ _ _ c.requires.can_run) c.flag_cart-answer.result _ _ c.without_text-in-Flag.result c.without_text-in-Flag.ensures (λ P n R. c.flag_cart-answer.ensures P R);
      began = (began, ap (λ (r : Dispatched). r.taken) c.without_text-in-Flag.ensures ∙ sym (ap size_of c.in-Flag.is));
    }

pub returns-in-Group : goal.returns-in-Group
returns-in-Group c =
    let a = c.args in
    let began = subst (λ (n : ℕ). Began 3 longest_number (decimal a.index) a.output.now c.put_index-next.new.out a.line n) (sym (ap (λ (r : Dispatched). r.next) c.without_text-in-Group.ensures)) c.put_index-next.ensures in
    record {
      within = answered_plainly a.bounds (λ (P : Product). lent P a.stations.now a.carts.now a.messages.now a.lines.now a.texts.now a.store.now) _ _ _ (ap (event_in (drop a.at a.input.now)) c.in-Group.is) _ a.texts.now _ (some_part a.bounds _ _ _ _ _ _ c.requires.can_run) c.define_group-answer.result _ _ c.without_text-in-Group.result c.without_text-in-Group.ensures (λ P n R. c.define_group-answer.ensures P R);
      began = (began, ap (λ (r : Dispatched). r.taken) c.without_text-in-Group.ensures ∙ sym (ap size_of c.in-Group.is));
    }

pub shape_of-output-in-SendGroup : goal.shape_of-output-in-SendGroup
shape_of-output-in-SendGroup c = c.put_index-next.ensures.kept

pub shape_of-output-in-SendLong : goal.shape_of-output-in-SendLong
shape_of-output-in-SendLong c = c.put_index-next.ensures.kept

pub returns-in-SendLong : goal.returns-in-SendLong
returns-in-SendLong c =
    let a = c.args in
    let began = subst (λ (n : ℕ). Began 3 longest_number (decimal a.index) a.output.now c.put_index-next.new.out a.line n) (sym (ap (λ (r : Dispatched). r.next) c.without_text-in-SendLong.ensures)) c.put_index-next.ensures in
    record {
      within = answered_plainly a.bounds (λ (P : Product). lent P a.stations.now a.carts.now a.messages.now a.lines.now a.texts.now a.store.now) _ _ _ (send_long_is a.input.now a.at _ a.e _ _ c.in-SendLong.is) _ a.texts.now _ (some_part a.bounds _ _ _ _ _ _ c.requires.can_run) c.send_long-answer.result _ _ c.without_text-in-SendLong.result c.without_text-in-SendLong.ensures c.send_long-answer.ensures;
      began = (began, ap (λ (r : Dispatched). r.taken) c.without_text-in-SendLong.ensures ∙ sym (ap size_of c.in-SendLong.is));
    }

pub returns-in-Retire : goal.returns-in-Retire
returns-in-Retire c =
    let a = c.args in
    let began = subst (λ (n : ℕ). Began 3 longest_number (decimal a.index) a.output.now c.put_index-next.new.out a.line n) (sym (ap (λ (r : Dispatched). r.next) c.without_text-in-Retire.ensures)) c.put_index-next.ensures in
    record {
      within = answered_plainly a.bounds (λ (P : Product). lent P a.stations.now a.carts.now a.messages.now a.lines.now a.texts.now a.store.now) _ _ _ (ap (event_in (drop a.at a.input.now)) c.in-Retire.is) _ a.texts.now _ (some_part a.bounds _ _ _ _ _ _ c.requires.can_run) c.retire-answer.result _ _ c.without_text-in-Retire.result c.without_text-in-Retire.ensures (λ P n R. c.retire-answer.ensures P R);
      began = (began, ap (λ (r : Dispatched). r.taken) c.without_text-in-Retire.ensures ∙ sym (ap size_of c.in-Retire.is));
    }

pub returns-in-Send : goal.returns-in-Send
returns-in-Send c =
    let a = c.args in
    let began = subst (λ (n : ℕ). Began 3 longest_number (decimal a.index) a.output.now c.put_index-next.new.out a.line n) (sym (ap (λ (r : Dispatched). r.next) c.without_text-in-Send.ensures)) c.put_index-next.ensures in
    record {
      within = answered_plainly a.bounds (λ (P : Product). lent P a.stations.now a.carts.now a.messages.now a.lines.now a.texts.now a.store.now) _ _ _ (send_is a.input.now a.at _ a.e _ _ c.in-Send.is) _ _ _ (omega (arith, c.send-answer.auto.texts, some_part a.bounds _ _ _ _ _ _ c.requires.can_run)) c.send-answer.result _ _ c.without_text-in-Send.result c.without_text-in-Send.ensures c.send-answer.ensures;
      began = (began, ap (λ (r : Dispatched). r.taken) c.without_text-in-Send.ensures ∙ sym (ap size_of c.in-Send.is));
    }

pub returns-in-SendGroup : goal.returns-in-SendGroup
returns-in-SendGroup c =
    let a = c.args in
    let began = subst (λ (n : ℕ). Began 3 longest_number (decimal a.index) a.output.now c.put_index-next.new.out a.line n) (sym (ap (λ (r : Dispatched). r.next) c.without_text-in-SendGroup.ensures)) c.put_index-next.ensures in
    record {
      within = answered_plainly a.bounds (λ (P : Product). lent P a.stations.now a.carts.now a.messages.now a.lines.now a.texts.now a.store.now) _ _ _ (send_group_is a.input.now a.at _ a.e _ _ c.in-SendGroup.is) _ _ _ (omega (arith, c.send_group-answer.auto.texts, some_part a.bounds _ _ _ _ _ _ c.requires.can_run)) c.send_group-answer.result _ _ c.without_text-in-SendGroup.result c.without_text-in-SendGroup.ensures c.send_group-answer.ensures;
      began = (began, ap (λ (r : Dispatched). r.taken) c.without_text-in-SendGroup.ensures ∙ sym (ap size_of c.in-SendGroup.is));
    }
