-- What one word does to a scan.
use Rattle.std.specs.Prelude.{ℕ, Bool, true, false, ◌&&◌, ◌||◌, List, if◌then◌else◌}
use Rattle.gix_date.specs.Relative.Words.{is_ago}
use Rattle.gix_date.specs.Relative.Roles.{is_count_word, has_unit}
use Rattle.gix_date.specs.declared.parsing.relative.pairs.Scan.{Scan}

-- the scan after one more word
abbrev pub step : Scan → List ℕ → Scan
step scan word =
    if scan.waiting then record scan { waiting = false; any = true; known = scan.known && has_unit word }
    else record scan { waiting = is_count_word word; ago = scan.ago || is_ago word }

-- the words are pairs
abbrev pub verdict : Scan → Bool
verdict scan = scan.any && (scan.known || scan.ago)
