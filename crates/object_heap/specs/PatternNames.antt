-- The names under which a pattern says what its literal is (ECMA-262 5.1, sections 15.10.7.1 to 15.10.7.4).
use Rattle.std.specs.Prelude.{codes}
use Rattle.object_heap.specs.declared.pattern_names.PatternNames.{PatternNames}

abbrev pub pattern_names : PatternNames
pattern_names = record { source = codes "source"; global = codes "global"; ignore_case = codes "ignoreCase"; multiline = codes "multiline" }
