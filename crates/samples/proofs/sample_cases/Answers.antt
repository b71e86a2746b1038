use Rattle.std.proofs.Common.{refl}
use Rattle.samples.specs.Listed.{cases}
use Rattle.samples.proofs.Passing.{all_pass}
use Rattle.samples.proofs.Mapping.{all_fit}
use Rattle.samples.proofs.Holding.{time_rows_hold, steep_rows_hold, time_asked, steep_asked}
use Rattle.samples.proofs.sample_cases.Goals as goal

pub returns : goal.returns
unfolding cases
returns c = record {
  count = refl;
  expected = all_pass;
  fitting = all_fit;
  rows_in_time = time_rows_hold;
  rows_in_steepness = steep_rows_hold;
  asked_in_time = time_asked;
  asked_in_steepness = steep_asked;
}
