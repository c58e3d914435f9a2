-- Named sets that meet the promise's premises, so that it says something of them. They are their texts, run through the reader's definition;
-- the checker computes each verdict.
use Rattle.std.specs.Prelude.{refl, true}
use Prim.Native.String as string
use Rattle.std.specs.Int.Count.{ones, ones_in}
use Rattle.model.specs.Limits.{last_slot}
use Rattle.model.specs.Sums.{sum_to, any_to, all_to}
use Rattle.model.specs.Sets.{used, any_of, meet, list_to}
use Rattle.document.specs.Text.{same, lines, ended, fields, all_digits, value_from, is_number, all_numbers, values_of, well_formed, numbers_of}
use Rattle.document.specs.Reader.{repeat_at, flow_fault, flows_fault, record_fault, flow_of, with_flow, first_line_fault, flow_line_fault, read_flows, set_of, read_lines, read_text}
use Rattle.document.specs.Delay.{conflict_work, share, over_others, bound_with, basic_bound, value_at, deadlines, lowered, round_to, rounds_in, reached, tight_bound, admits, verdict_of}
use Rattle.document.specs.Table.{bytes}
use Rattle.promise.proofs.Demand.{demand_3}
use Rattle.std.proofs.Common.{le_refl}
use Rattle.promise.specs.Named.{Verdicts, p1, ties, l1, l2, Premises, KeptAlways}

pub premises : Premises
unfolding bytes same lines ended fields all_digits value_from is_number all_numbers values_of well_formed numbers_of repeat_at flow_fault flows_fault record_fault flow_of with_flow first_line_fault flow_line_fault read_flows set_of read_lines read_text conflict_work share over_others bound_with basic_bound value_at deadlines lowered round_to rounds_in reached tight_bound admits verdict_of sum_to any_to all_to used any_of meet list_to ones ones_in
premises =
    record {
      of_p1 = record { read = refl; by_basic = refl; by_tightened = refl };
      of_p5 = record { read = refl; by_basic = refl; by_tightened = refl };
      of_p7 = record { read = refl; by_basic = refl; by_tightened = refl };
      of_p8 = record { read = refl; by_basic = refl; by_tightened = refl };
      of_ties = record { read = refl; by_basic = refl; by_tightened = refl };
      of_tight = record { read = refl; by_basic = refl; by_tightened = refl };
      of_l1 = record { read = refl; by_basic = refl; by_tightened = refl };
      of_l2 = record { read = refl; by_basic = refl; by_tightened = refl };
    }

kept_always : (x : string.String) → Verdicts x true true → KeptAlways x
kept_always x j = (
  demand_3.0 (bytes x) j.read j.by_basic last_slot (le_refl last_slot),
  demand_3.1 (bytes x) j.read j.by_tightened last_slot (le_refl last_slot),
)

pub p1_kept : KeptAlways p1
p1_kept = kept_always p1 premises.of_p1

pub ties_kept : KeptAlways ties
ties_kept = kept_always ties premises.of_ties

pub l1_kept : KeptAlways l1
l1_kept = kept_always l1 premises.of_l1

pub l2_kept : KeptAlways l2
l2_kept = kept_always l2 premises.of_l2
