-- `form_lines::take` meets its contract.
use mathlib.Core.Path.{refl, subst}
use Rattle.view.specs.Records.{index_of}
use Rattle.form_lines.specs.Said.{a_multicast, an_ack_list, a_delete, a_deregister, a_register, said}
use Rattle.form_lines.specs.Pass.{fresh, note}
use Rattle.form_lines.specs.Ways.{met_of, Inside}
use Rattle.form_lines.proofs.StepLaws.{told, told_nothing, says_multicast, says_ack_list, says_delete, says_deregister, says_register, says_nothing}
use Rattle.form_lines.proofs.take.Goals as goal

pub note_ack_list-requires : goal.note_ack_list-requires
note_ack_list-requires c = (c.requires.0, λ t. subst Inside (says_ack_list c.args.r c.in-Some.kind c.index_of-index.result c.number_of-number.result c.in-Some.ensures c.index_of-index.ensures c.number_of-number.ensures c.in-AckList.is) (c.requires.1 t))

pub note_delete-requires : goal.note_delete-requires
note_delete-requires c = λ t. subst Inside (says_delete c.args.r c.in-Some.kind c.index_of-index.result c.number_of-number.result c.in-Some.ensures c.index_of-index.ensures c.number_of-number.ensures c.in-Delete.is) (c.requires.1 t)

pub note_handoff-requires : goal.note_handoff-requires
note_handoff-requires c = λ t. subst Inside (says_deregister c.args.r c.in-Some.kind c.index_of-index.result c.number_of-number.result c.in-Some.ensures c.index_of-index.ensures c.number_of-number.ensures c.in-Deregister.is) (c.requires.1 t)

pub note_handoff-requires-in-Register : goal.note_handoff-requires-in-Register
note_handoff-requires-in-Register c = λ t. subst Inside (says_register c.args.r c.in-Some.kind c.index_of-index.result c.number_of-number.result c.in-Some.ensures c.index_of-index.ensures c.number_of-number.ensures c.in-Register.is) (c.requires.1 t)

pub returns-in-Multicast : goal.returns-in-Multicast
returns-in-Multicast c =
    record {
      masks_after = told c.args.right (met_of c.args.way c.args.masks.now) (met_of c.note_multicast.result c.args.masks.now) (a_multicast c.index_of-index.result c.number_of-number.result) (said c.args.r) (says_multicast c.args.r c.in-Some.kind c.index_of-index.result c.number_of-number.result c.in-Some.ensures c.index_of-index.ensures c.number_of-number.ensures c.in-Multicast.is) (c.note_multicast.ensures c.args.masks.now);
      masks_len_unchanged = refl;
    }

pub returns-in-AckList : goal.returns-in-AckList
returns-in-AckList c =
    record {
      masks_after = told c.args.right (met_of c.args.way c.args.masks.now) (met_of c.note_ack_list.result c.note_ack_list.new.masks) (an_ack_list c.index_of-index.result c.number_of-number.result c.args.r.1) (said c.args.r) (says_ack_list c.args.r c.in-Some.kind c.index_of-index.result c.number_of-number.result c.in-Some.ensures c.index_of-index.ensures c.number_of-number.ensures c.in-AckList.is) (c.note_ack_list.ensures.by_index c.number_of-number.result);
      masks_len_unchanged = c.note_ack_list.ensures.masks_len_unchanged;
    }

pub returns-in-Delete : goal.returns-in-Delete
returns-in-Delete c =
    record {
      masks_after = told c.args.right (met_of c.args.way c.args.masks.now) (met_of c.note_delete.result c.args.masks.now) (a_delete c.index_of-index.result c.number_of-number.result) (said c.args.r) (says_delete c.args.r c.in-Some.kind c.index_of-index.result c.number_of-number.result c.in-Some.ensures c.index_of-index.ensures c.number_of-number.ensures c.in-Delete.is) (c.note_delete.ensures c.args.masks.now);
      masks_len_unchanged = refl;
    }

pub returns-in-Deregister : goal.returns-in-Deregister
returns-in-Deregister c =
    record {
      masks_after = told c.args.right (met_of c.args.way c.args.masks.now) (met_of c.note_handoff.result c.args.masks.now) (a_deregister c.index_of-index.result) (said c.args.r) (says_deregister c.args.r c.in-Some.kind c.index_of-index.result c.number_of-number.result c.in-Some.ensures c.index_of-index.ensures c.number_of-number.ensures c.in-Deregister.is) (c.note_handoff.ensures c.args.masks.now);
      masks_len_unchanged = refl;
    }

pub returns-in-Register : goal.returns-in-Register
unfolding fresh note
returns-in-Register c =
    record {
      masks_after = told c.args.right (met_of c.args.way c.args.masks.now) (met_of c.note_handoff-in-Register.result c.args.masks.now) (a_register c.index_of-index.result) (said c.args.r) (says_register c.args.r c.in-Some.kind c.index_of-index.result c.number_of-number.result c.in-Some.ensures c.index_of-index.ensures c.number_of-number.ensures c.in-Register.is) (c.note_handoff-in-Register.ensures c.args.masks.now);
      masks_len_unchanged = refl;
    }

pub returns-in_default : goal.returns-in_default
returns-in_default c =
    record {
      masks_after = told_nothing c.args.right (met_of c.args.way c.args.masks.now) (met_of c.failed.result c.args.masks.now) (said c.args.r) (index_of c.args.r.0) (says_nothing c.args.r c.in_default.ensures) (c.failed.ensures c.args.masks.now);
      masks_len_unchanged = refl;
    }
