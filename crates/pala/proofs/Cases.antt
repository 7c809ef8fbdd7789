-- The ten P cases and the session, as one claim about the rules themselves. Each side computes. Assumes nothing.
use mathlib.Core.Path.{◌≡◌, refl}
use Rattle.pala.specs.Cases.{Holds, session_input, session_text, p_table, began, shown, musts}
use Rattle.pala.specs.Lines.{replay}

-- `replay` prints the session's nine lines, and each P case shows what 01 says
pub cases_hold : (replay session_input ≡ session_text) × Holds 4 p_table
unfolding replay session_input session_text began shown musts p_table
cases_hold = (refl, refl)
