-- The generator that a table within its limits holds. Assumes nothing.
use Rattle.table.specs.declared.rows.Rows.{Rows}
use Rattle.table.specs.Tables.{Generator, generator}

abbrev pub generator_of : {S : _} {a : _} → Rows S a → Generator
generator_of {S} {a} rows = generator a.Q a.plus a.times rows.k rows.m rows.coefficients.now
