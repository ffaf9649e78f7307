-- What the laws say of texts, on worked texts: each row computes. The moment is 2009-08-30 19:20:00 in UTC.
use Rattle.std.proofs.Common.{◌≡◌, refl, [], ◌∷◌, length, map, Bool, true, false}
use Prim.Native.String.{String}
use Rattle.std.specs.Prelude.{codes}
use Rattle.git_date.specs.Exact.Computing.{computing}
use Rattle.git_date_laws.specs.Texts.Lines.{are_white, awaits_offset, end_before_minutes}
use Rattle.git_date_laws.specs.Texts.Moments.{has_day_month, meets_day_month}
use Rattle.git_date.specs.Exact.Reading.{nothing_read}
use Rattle.git_date.specs.Tokens.Tokens.{tokens}
use Rattle.git_date.proofs.Rows.RowMoment.{row_now}

-- minutes may follow in the next line
minutes_follow : map (λ text. end_before_minutes (tokens (codes text)))
    ("2005-04-07 10:00" ∷ "2005-04-07 10:00:" ∷ "2005-04-07 10:00 +05" ∷ "2005-04-07 10:00 +05:" ∷ "2005-04-07 10:00 +05: "
    ∷ "2005-04-07 10:00 +5:" ∷ "2005-04-07 10:00 +05:x" ∷ [])
    ≡ false ∷ false ∷ false ∷ true ∷ true ∷ false ∷ false ∷ []
unfolding computing end_before_minutes are_white
minutes_follow = refl

-- the offset of `@` may follow
offset_follows : map (λ text. awaits_offset (tokens (codes text))) ("@5 +" ∷ "@5 -  " ∷ "@5 " ∷ "5 +" ∷ "@5 +0" ∷ [])
    ≡ true ∷ true ∷ false ∷ false ∷ false ∷ []
unfolding computing are_white
offset_follows = refl

-- the reader comes to a date that does not begin with its year
meets : String → Bool
unfolding computing
meets text = meets_day_month row_now (length (codes text)) nothing_read (tokens (codes text))

days_first : map meets
    ("7/4/2009 10:00" ∷ "10:00 7.4." ∷ "2005-04-07T22:13:13.019" ∷ "Thu, 07 Apr 2005 22:13:13 +0200" ∷ "20:30:45.5/6"
    ∷ "10:00 +05.06" ∷ "2005-04-07 10:00 7-4" ∷ [])
    ≡ true ∷ true ∷ false ∷ false ∷ true ∷ false ∷ true ∷ []
unfolding computing meets_day_month meets
days_first = refl

-- such a date begins somewhere, also where the reader comes to none
begins_somewhere : map (λ text. has_day_month (tokens (codes text)))
    ("7/4/2009 10:00" ∷ "2005-04-07T22:13:13" ∷ "Thu, 07 Apr 2005 22:13:13 +0200" ∷ "1234567890 +0530" ∷ "10:00:05.5" ∷ [])
    ≡ true ∷ true ∷ false ∷ false ∷ true ∷ []
unfolding computing has_day_month
begins_somewhere = refl
