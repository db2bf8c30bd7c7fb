-- `form_lines::is_right` meets its contract.
use mathlib.Core.Path.{sym, ap, ◌∙◌}
use Rattle.carts.specs.View.{carts_in}
use Rattle.messages.specs.View.{rooms_in}
use Rattle.lines.specs.Lines.{registers_in}
use Rattle.form_lines.specs.Said.{Said}
use Rattle.form_lines.specs.Pass.{right}
use Rattle.form_lines.proofs.StepLaws.{says_multicast, says_ack_list, says_delete, says_deregister, says_register, says_nothing}
use Rattle.form_lines.proofs.is_right.Goals as goal

pub returns-in-Multicast : goal.returns-in-Multicast
unfolding right
returns-in-Multicast c = λ n. c.multicast_right.ensures ∙ sym (ap (λ (q : Said). right n c.args.k (carts_in c.args.carts.now) (rooms_in c.args.messages.now) (registers_in c.args.lines.now) c.args.i c.args.j q) (says_multicast c.args.r c.in-Some.kind c.index_of-index.result c.number_of-number.result c.in-Some.ensures c.index_of-index.ensures c.number_of-number.ensures c.in-Multicast.is))

pub returns-in-AckList : goal.returns-in-AckList
unfolding right
returns-in-AckList c = λ n. c.ack_list_right.ensures ∙ sym (ap (λ (q : Said). right n c.args.k (carts_in c.args.carts.now) (rooms_in c.args.messages.now) (registers_in c.args.lines.now) c.args.i c.args.j q) (says_ack_list c.args.r c.in-Some.kind c.index_of-index.result c.number_of-number.result c.in-Some.ensures c.index_of-index.ensures c.number_of-number.ensures c.in-AckList.is))

pub returns-in-Delete : goal.returns-in-Delete
unfolding right
returns-in-Delete c = λ n. c.delete_right.ensures ∙ sym (ap (λ (q : Said). right n c.args.k (carts_in c.args.carts.now) (rooms_in c.args.messages.now) (registers_in c.args.lines.now) c.args.i c.args.j q) (says_delete c.args.r c.in-Some.kind c.index_of-index.result c.number_of-number.result c.in-Some.ensures c.index_of-index.ensures c.number_of-number.ensures c.in-Delete.is))

pub returns-in-Deregister : goal.returns-in-Deregister
unfolding right
returns-in-Deregister c = λ n. c.deregister_right.ensures ∙ sym (ap (λ (q : Said). right n c.args.k (carts_in c.args.carts.now) (rooms_in c.args.messages.now) (registers_in c.args.lines.now) c.args.i c.args.j q) (says_deregister c.args.r c.in-Some.kind c.index_of-index.result c.number_of-number.result c.in-Some.ensures c.index_of-index.ensures c.number_of-number.ensures c.in-Deregister.is))

pub returns-in-Register : goal.returns-in-Register
unfolding right
returns-in-Register c = λ n. c.register_right.ensures ∙ sym (ap (λ (q : Said). right n c.args.k (carts_in c.args.carts.now) (rooms_in c.args.messages.now) (registers_in c.args.lines.now) c.args.i c.args.j q) (says_register c.args.r c.in-Some.kind c.index_of-index.result c.number_of-number.result c.in-Some.ensures c.index_of-index.ensures c.number_of-number.ensures c.in-Register.is))

pub returns-in_default : goal.returns-in_default
unfolding right
returns-in_default c = λ n. sym (ap (λ (q : Said). right n c.args.k (carts_in c.args.carts.now) (rooms_in c.args.messages.now) (registers_in c.args.lines.now) c.args.i c.args.j q) (says_nothing c.args.r c.in_default.ensures))
