-- How a run is done, by the settings of a call. Those are in range that the words of a command could say.
use Rattle.std.specs.Prelude.{ℕ, ℤ, pos, ◌*ℤ◌, Bool, ◌&&◌, nat_lt, nat_le, int_le, unsigned_abs, [], Result, Ok, Err, if◌then◌else◌}
use Rattle.pac_calendar.specs.declared.showing.TheConstants.{LAST_MOMENT}
use Rattle.pac_words.specs.declared.usual.TheConstants.{MOST_FUEL}
use Rattle.pac_command.specs.declared.given.Given.{Given}
use Rattle.library_calls.specs.declared.settings.Settings.{Settings}
use Rattle.library_calls.specs.declared.told.Status.TheVariants as status
use Rattle.library_calls.specs.Told.{Told}

-- from 1970 to the last moment
abbrev pub is_moment : ℤ → Bool
is_moment seconds = int_le (pos 0) seconds && int_le seconds (pos LAST_MOMENT)

abbrev pub is_fuel : ℕ → Bool
is_fuel fuel = nat_le 1 fuel && nat_le fuel MOST_FUEL

-- under 24 hours away
abbrev pub is_zone : ℤ → Bool
is_zone minutes = nat_lt (unsigned_abs minutes) 1440

abbrev pub are_in_range : Settings → Bool
are_in_range settings = is_moment settings.moment && is_fuel settings.fuel && is_zone settings.zone_minutes

abbrev pub bad_settings : Told
bad_settings = record { status = status.BadSettings; bytes = [] }

-- what words that say these settings give to each run; the zone in seconds east of UTC
abbrev pub given_by : Settings → ℤ → Given
given_by settings zone = record { start = settings.moment; zone = zone; settings = record { my_ip = settings.my_ip }; fuel = settings.fuel }

-- the seconds east of UTC
abbrev pub zone_in : Settings → Result ℤ Told
zone_in settings = if are_in_range settings then Ok (settings.zone_minutes *ℤ pos 60) else Err bad_settings
