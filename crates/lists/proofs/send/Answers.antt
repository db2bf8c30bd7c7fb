-- `lists::send` meets its contract.
use mathlib.Core.Path.{◌≡◌, sym, ◌∙◌}
use Rattle.std.specs.Prelude.{Err}
use native.Mathlib.Omega.{arith}
use lib.ListN.{length}
use Rattle.lists.specs.View.{lent_lists}
use Rattle.lists.proofs.Facts.{sized}
use Rattle.lists.proofs.Checks.{send_checks_lem, refused_met}
use Rattle.lists.proofs.SendLaws.{send_met, send_passes}
use Rattle.lists.proofs.send.Goals as goal

pub send_refusal-requires : goal.send_refusal-requires
send_refusal-requires c =
    let a = c.args in
    sized (lent_lists a.counts.now a.sends.now a.octets.now) c.requires

pub returns-in_err-send_refusal : goal.returns-in_err-send_refusal
returns-in_err-send_refusal c =
    let a = c.args in
    let L = lent_lists a.counts.now a.sends.now a.octets.now in
    let found = c.in_err-send_refusal in
    let is : c.from_residual.result ≡ Err found.field-0.0 = let m = c.from_residual.ensures.1 in grind arith in
    rw is (refused_met L _ found.field-0.0 (send_checks_lem L a.station.0 a.set a.text.now c.requires ∙ sym found.ensures))

pub append-requires : goal.append-requires
append-requires c =
    let a = c.args in
    let L = lent_lists a.counts.now a.sends.now a.octets.now in
    let none = sym c.in_ok-send_refusal.ensures in
    record {
      octets_value = send_passes L a.station.0 a.set (length a.text.now) c.requires none;
      text_value = none;
    }

pub returns : goal.returns
returns c =
    let a = c.args in
    let L = lent_lists a.counts.now a.sends.now a.octets.now in
    send_met L _ a.station.0 a.set a.text.now _ c.requires (sym c.in_ok-send_refusal.ensures) c.append.ensures.result_value c.append.ensures.octets_after
