-- The records in the fields of a cartridge.
use Rattle.std.specs.Prelude.{ℕ, List}
use Rattle.map.specs.declared.roads.Mark.TheVariants.{Open}
use Rattle.map.specs.declared.roads.Road.{Road}
use Rattle.format.specs.Bytes.{number}

-- The road that eight bytes say.
abbrev pub road_in : List ℕ → Road
road_in l = record {
  start = record { 0 = number l 0 };
  end = record { 0 = number l 2 };
  seconds = number l 4;
  steepness = number l 6;
  mark = Open;
}
