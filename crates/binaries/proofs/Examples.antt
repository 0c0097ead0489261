-- The rows of specs/Examples, as one theorem about the definitions.
use mathlib.Core.Path.{refl}
use Rattle.records.specs.Dates.{february, days_in, real_date}
use Rattle.records.specs.Lists.{All}
use Rattle.records.specs.Order.{first_of}
use Rattle.binaries.specs.Percentages.{cell_in, row_of}
use Rattle.binaries.specs.Times.{year_end, column_of}
use Rattle.binaries.specs.Positions.{good_fields, offsets, matched_in}
use Rattle.binaries.specs.Margins.{per_contract, binary_margin, pair_margin}
use Rattle.binaries.specs.Calls.{single_checks, single_call, pair_checks, pair_call}
use Rattle.binaries.specs.Examples.{Shows, singles, pairs}

pub examples : All Shows singles × All Shows pairs
unfolding february days_in real_date first_of cell_in row_of year_end column_of good_fields offsets matched_in per_contract binary_margin pair_margin
    single_checks single_call pair_checks pair_call singles pairs
examples = (
  (refl, (refl, (refl, (refl, (refl, (refl, (refl, (refl, (refl, (refl, (refl, (refl, (refl, tt))))))))))))),
  (refl, (refl, (refl, (refl, (refl, (refl, (refl, (refl, (refl, (refl, tt)))))))))),
)
