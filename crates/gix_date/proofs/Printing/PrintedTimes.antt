-- What a time is printed as, from what its zoned values are printed as.
use Rattle.std.proofs.Common.{◌≡◌, ◌∙◌, ℕ, List, Ok, Err, inl, inr, string_bytes, ap}
use Rattle.gix_date.specs.Fields.Layout.{LocalTime}
use Rattle.gix_date.specs.Printing.NamedTexts.{ShowsText, local_time}
use Rattle.gix_date.specs.Printing.PrintedTimes.{IsPrintedAs}
use Rattle.gix_date.specs.declared.time.Time.{Time}
use Rattle.jiff.specs.Words.{plain_zoned}
use Rattle.gix_date.proofs.Printing.LocalClocks.{clock_is_shown, four-digits-from, moment-shows}

pub printed_as : (pattern : List ℕ) (text : LocalTime → List ℕ) → ShowsText pattern text → (t : Time)
    → IsPrintedAs pattern text t
printed_as pattern text law t four_digits (Ok s) (z, moment, shown) =
    let shows = moment-shows t z moment in
    let same : Ok (string_bytes s) ≡ Ok (text (local_time (plain_zoned z))) =
    (law (plain_zoned z) (four-digits-from (plain_zoned z) t shows four_digits)).0 (Ok (string_bytes s)) shown in
    let bytes : string_bytes s ≡ text (local_time (plain_zoned z)) = cc in
    bytes ∙ ap text (clock_is_shown (plain_zoned z) t shows)
printed_as pattern text law t four_digits (Err e) (inl conversion) = inr conversion
printed_as pattern text law t four_digits (Err e) (inr (inl memory)) = inl memory.0
printed_as pattern text law t four_digits (Err e) (inr (inr (is, (z, moment, unprinted)))) =
    absurd ((law (plain_zoned z) (four-digits-from (plain_zoned z) t (moment-shows t z moment) four_digits)).1 unprinted)
