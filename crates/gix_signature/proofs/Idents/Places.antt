-- The places of a line's parts.
use Rattle.std.proofs.Common.{◌≡◌, ◌∙◌, ℕ, ◌+◌, ◌-◌, ◌<◌, ◌≤◌, Bool, true, false, cond, not, ◌&&◌, List, ◌∷◌, ◌++◌, length, take, drop}
use Rattle.std.proofs.Common.{Some, None, IfSome, get_or, refl, ap, ap₂, sym, subst, arith}
use Rattle.std.proofs.Math.Seq.{take-append_seam, drop-append_seam}
use Rattle.std.proofs.lemmas.Bool.{and_parts}
use Rattle.std.proofs.lemmas.Bool.Decides.{nat_tests}
use Rattle.std.proofs.lemmas.List.{length-take, length-drop, take-take, take-append-drop, drop-drop}
use Rattle.std.proofs.lemmas.List.Sums.{split_at_first, passes_at_first}
use Rattle.std.specs.Char.{is_ascii_digit}
use Rattle.std.specs.List.{list_any, position_or_len, prefix_len, suffix_len, before_first, after_first, after_last, take_while}
use Rattle.gix_signature.specs.Signature.{closing}
use Rattle.gix_signature.specs.Ident.Bytes.{is_opening, is_closing, is_blank}
use Rattle.gix_signature.specs.Ident.Texts.{whole_line, without_front, begins_with}
use Rattle.gix_signature.specs.Ident.Parts.{DateText, line_parts, line_places, has_identity, shown_name}
use Rattle.gix_signature.specs.Ident.Parts.{shown_email}
use Rattle.gix_signature.specs.Ident.Parts.{after_shown_email, date_text, date_parts, after_seconds, begins_with_offset, offset_at_front}
use Rattle.gix_signature.specs.Ident.Laws.{StandsAt, HaveTheirPlaces, PlacesHold}
use Rattle.gix_signature.proofs.Texts.{place_within}

-- a front of a text stands at its front
front-stands : (n : ℕ) (xs : List ℕ) → take (length (take n xs)) xs ≡ take n xs
front-stands n xs = ap (λ l. take (length (take n xs)) l) (sym (take-append-drop n xs)) ∙ take-append_seam (take n xs) (drop n xs)

-- what stands after so many bytes begins at as many as the text is longer
end-place : (n : ℕ) (xs : List ℕ) → drop (length xs - length (drop n xs)) xs ≡ drop n xs
end-place n xs =
    let at : length xs - length (drop n xs) ≡ length (take n xs) = omega (arith, length-take n xs, length-drop n xs) in
    ap₂ (λ (k : ℕ) (l : List ℕ). drop k l) at (sym (take-append-drop n xs)) ∙ drop-append_seam (take n xs) (drop n xs)

stands-after : (n : ℕ) (k : ℕ) (line : List ℕ) → StandsAt line (length line - length (drop n line)) (take k (drop n line))
stands-after n k line = ap (λ l. take (length (take k (drop n line))) l) (end-place n line) ∙ front-stands k (drop n line)

-- a front of what a text ends with stands where that begins
stands : (line part : List ℕ) (n k : ℕ) → part ≡ drop n line → StandsAt line (length line - length part) (take k part)
stands line part n k e = subst (λ p. StandsAt line (length line - length p) (take k p)) (sym e) (stands-after n k line)

closes : (c : ℕ) → is_closing c ≡ true → c ≡ closing
closes c h = grind (arith, nat_tests, h)

module _ (line : List ℕ) where
  abbrev opens : ℕ
  opens = position_or_len is_opening line + 1

  abbrev inside : List ℕ
  inside = after_first is_opening line

  abbrev ends : ℕ
  ends = position_or_len is_closing inside

  abbrev date : List ℕ
  date = date_text line

  name-stands : StandsAt line 0 (shown_name line)
  name-stands =
      let front = before_first is_opening line in
      let n = length front - suffix_len is_blank front in
      let short : n ≤ position_or_len is_opening line = omega (arith, length-take (position_or_len is_opening line) line) in
      let same : shown_name line ≡ take n line = take-take n (position_or_len is_opening line) line short in
      subst (λ p. StandsAt line 0 p) (sym same) (front-stands n line)

  rest-is : drop (length line - length (after_shown_email line)) line ≡ after_shown_email line
  rest-is =
      let e = drop-drop (ends + 1) opens line in
      subst (λ p. drop (length line - length p) line ≡ p) (sym e) (end-place (opens + (ends + 1)) line)

  line-is : list_any is_closing inside ≡ true
      → line ≡ take opens line ++ (shown_email line ++ (closing ∷ drop (length line - length (after_shown_email line)) line))
  line-is has =
      let room : ends < length inside = grind (arith, nat_tests, place_within is_closing inside, has) in
      sym (take-append-drop opens line)
      ∙ ap (λ l. take opens line ++ l) (split_at_first is_closing inside 0 room
      ∙ ap₂ (λ c l. shown_email line ++ (c ∷ l)) (closes (get_or inside ends 0) (passes_at_first is_closing inside 0 room)) (sym rest-is))

  abbrev blanks : ℕ
  blanks = prefix_len is_blank (after_last is_closing line)

  abbrev tail : ℕ
  tail = length line - suffix_len (λ c. not (is_closing c)) line

  date-end : date ≡ drop (tail + blanks) line
  date-end = drop-drop blanks tail line

  offset-end : after_seconds date
      ≡ drop ((tail + blanks) + (prefix_len is_ascii_digit date + prefix_len is_blank (without_front is_ascii_digit date))) line
  offset-end =
      let a = prefix_len is_ascii_digit date in
      let b = prefix_len is_blank (without_front is_ascii_digit date) in
      drop-drop b a date ∙ ap (λ l. drop (a + b) l) date-end ∙ drop-drop (a + b) (tail + blanks) line

  seconds-stand : StandsAt line (length line - length date) (take_while is_ascii_digit date)
  seconds-stand = stands line date (tail + blanks) (prefix_len is_ascii_digit date) date-end

  offset-stands : StandsAt line (length line - length (after_seconds date)) (offset_at_front (after_seconds date))
  offset-stands =
      stands line (after_seconds date)
      ((tail + blanks) + (prefix_len is_ascii_digit date + prefix_len is_blank (without_front is_ascii_digit date)))
      (1 + prefix_len is_ascii_digit (drop 1 (after_seconds date))) offset-end

  dates-by : (b : Bool)
      → IfSome (cond b (Some (record { seconds = take_while is_ascii_digit date; offset = offset_at_front (after_seconds date) })) None)
      (λ (d : DateText). StandsAt line (line_places line).seconds d.seconds × StandsAt line (line_places line).offset d.offset)
  dates-by true = (seconds-stand, offset-stands)
  dates-by false = tt

  dates : IfSome (date_parts date)
      (λ (d : DateText). StandsAt line (line_places line).seconds d.seconds × StandsAt line (line_places line).offset d.offset)
  unfolding date_parts
  dates = dates-by (begins_with is_ascii_digit date && begins_with_offset (after_seconds date))

  parts-by : (b : Bool) → has_identity line ≡ b
      → IfSome (cond b (Some (record { name = shown_name line; email = shown_email line; date = date_parts date })) None)
      (HaveTheirPlaces line (line_places line))
  parts-by false e = tt
  parts-by true e =
      record { name = name-stands; whole = line-is (and_parts (list_any is_opening line) (list_any is_closing inside) e).1; date = dates }

pub places_hold : (text : List ℕ) → PlacesHold text
unfolding line_parts
places_hold text = parts-by (whole_line text) (has_identity (whole_line text)) refl
