use mathlib.Core.Path.{◌≡◌, refl, sym}
use native.Mathlib.Omega.{arith}
use lib.ListN.{length}
use Rattle.training_stream.proofs.Fresh.{fresh_lists, unstarted_lists}
use Rattle.training_stream.proofs.run_over.Goals as goal

pub run_all-requires : goal.run_all-requires
run_all-requires g c =
    let a = c.args in
    let octets : length a.octets.now ≡ 1048576 = omega arith in
    let ready = fresh_lists a.counts.now a.sends.now a.octets.now (c.requires.1, c.requires.2) c.requires.3 octets in
    let none = unstarted_lists a.counts.now a.sends.now a.octets.now (c.requires.1, c.requires.2) c.requires.3 octets in
    record {
      ready = (c.requires.0, ready, c.all_numbers-numbers.ensures);
      octets_value = (none, sym c.large_buffer-input.ensures, sym c.large_buffer-output.ensures, refl);
    }
