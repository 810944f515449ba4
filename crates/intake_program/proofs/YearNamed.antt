-- S7: the number that the program names is that of year 2.
use Rattle.years.specs.Years.{Names}
use Rattle.years.specs.declared.Year.TheVariants.{Two}
use Rattle.years.proofs.YearLaws.{two_named}
use Rattle.intake_program.specs.Found.{year_named}

pub by_year_2 : Names year_named Two
by_year_2 = two_named
