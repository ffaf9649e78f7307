-- A copy of a text that was refused.
use Rattle.std.specs.Prelude.{ℕ, List, if◌then◌else◌, codes}
use Rattle.std.specs.Str.{is_utf8}

-- What an `InputBytes` shows: its bytes, or `not text` if they are not UTF-8. Those of a refusal are UTF-8.
abbrev pub shown_text : List ℕ → List ℕ
shown_text bytes = if is_utf8 bytes then bytes else codes "not text"
