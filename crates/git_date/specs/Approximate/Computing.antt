-- What a proof about an approximate text that is written out opens, beside `computing`.
use Rattle.git_date.specs.Tokens.Tokens.{walked}
use Rattle.git_date.specs.Approximate.Reading.{draft_of, string_guess, guess}
use Rattle.git_date.specs.Approximate.Clocks.{clock_shown_at, first_second, filled_seconds}
use Rattle.git_date.specs.Approximate.Drafts.{settle}
use Rattle.git_date.specs.Approximate.Rules.{meaning_rule, approximate_letters_rule, approximate_digits_rule}
use Rattle.git_date.specs.Approximate.Words.{moment_named, count_named, unit_named, meaning_of}
use Rattle.gix_date.specs.Text.LongNames.{weekday_of_word}
use Rattle.git_date.specs.Approximate.Zones.{shown_in, found_at, filled_instant, filled_time, moved_to, fill}
use Rattle.git_date.specs.Exact.Zones.{nearest, flagged_at, searched, found_offset}

-- for proofs about literal texts: `unfolding computing approximating` below a signature lets `guess` compute, for a
-- written-out text, a zone by cases and a moment in numerals
unfoldable pub approximating : Type 0
unfolding walked draft_of string_guess guess clock_shown_at first_second filled_seconds settle meaning_rule approximate_letters_rule
    approximate_digits_rule moment_named count_named unit_named weekday_of_word meaning_of nearest flagged_at searched found_offset shown_in
    found_at filled_instant filled_time moved_to fill
approximating = Unit {0}
