-- What a matcher searches.
use Rattle.js_pattern.specs.Place.{Subject}
use Rattle.js_regex.specs.declared.matcher.Matcher.{Matcher}

-- its text, with the flags of its pattern
abbrev pub subject_in : Matcher → Subject
subject_in m = record { text = m.text.now; flags = m.flags }
