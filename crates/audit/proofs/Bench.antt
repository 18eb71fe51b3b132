-- Each of the twelve examples is computed: both sides of its equation come to the same value.
use mathlib.Core.Path.{refl}
use lib.Ieee.{of_bits, of_int, div, sub}
use Rattle.metrics.specs.Letters.{counts_of, times_in, table_from, number_of, code_of, windows_of}
use Rattle.metrics.specs.Similarity.{sizesim_of, seqsim_of, sum_by, magnitude_sum, overlaps_of}
use Rattle.paths.specs.Chains.{extends, is_chain}
use Rattle.paths.specs.Count.{ascending_lists, chain_count}
use Rattle.kplib.specs.Parts.{part_lists, choices, falling_lists, positions_from}
use Rattle.kplib.specs.Graph.{edge}
use Rattle.audit.specs.Bench.{twelve, AllHold}

pub bench : AllHold twelve
unfolding twelve counts_of windows_of times_in table_from number_of code_of sizesim_of seqsim_of sum_by magnitude_sum overlaps_of of_bits of_int div sub part_lists choices falling_lists positions_from
    extends is_chain ascending_lists chain_count edge
bench = (refl, (refl, (refl, (refl, (refl, (refl, ((refl, refl), (refl, (refl, (refl, (refl, ((refl, (refl, refl)), tt))))))))))))
