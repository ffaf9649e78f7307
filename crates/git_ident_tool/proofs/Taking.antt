-- Bytes of a source taken line by line, or skipped.
use Rattle.std.proofs.lemmas.Bool.Decides.{nat_tests}
use Rattle.std.proofs.lemmas.Grind.{common_steps}
use Rattle.std.proofs.Common.{◌≡◌, ◌∙◌, ◌+◌, ◌-◌, ◌<◌, ◌≤◌, ℕ, Bool, true, false, List, [], ◌∷◌, ◌++◌, length, take, drop, refl, sym, ap}
use Rattle.std.proofs.Common.{append_assoc, append-nil, length-append, length-take, length-drop, drop-drop, arith, Option, None, Some, Ok}
use Rattle.std.proofs.Common.{Err}
use Rattle.std.proofs.lemmas.List.{drop-take, drop_all, take-append-drop}
use Rattle.std.specs.Io.KnownBytes.{Consumes, IsAtEnd, Keeps, prepend_known}
use Rattle.std.specs.declared.io.ErrorKind.{ErrorKind}
use Rattle.gix_date.specs.Text.Characters.{newline}
use Rattle.gix_date.specs.Devices.StreamState.{StreamState, Gives}
use Rattle.streams.specs.Lines.{IsLine}
use Rattle.git_ident_tool.specs.Cursor.{ReadsLine, Refills, Skips, TakesEnd, TakesFront}
use Rattle.git_ident_tool.specs.declared.stream.LineEnd.TheVariants.{Full}

-- an input of which this is unread
abbrev pub at : List ℕ → StreamState → StreamState
at unread source = record { bytes = prepend_known unread source.bytes; fault = source.fault }

pub drop_front : (xs ys : List ℕ) → drop (length xs) (xs ++ ys) ≡ ys
drop_front [] ys = refl
drop_front (x ∷ xs) ys = drop_front xs ys

-- what is unread once so many bytes of it are taken
pub unread-after : (bytes : List ℕ) (from to used : ℕ) → from + used ≤ to
    → take (to - (from + used)) (drop (from + used) bytes) ≡ drop used (take (to - from) (drop from bytes))
unread-after bytes from to used fits =
    let more : used + (to - (from + used)) ≡ to - from = omega (arith, fits) in
    ap (λ (xs : List ℕ). take (to - (from + used)) xs) (sym (drop-drop used from bytes))
    ∙ sym (drop-take used (to - (from + used)) (drop from bytes))
    ∙ ap (λ (n : ℕ). drop used (take n (drop from bytes))) more

pub unread-advanced : (bytes : List ℕ) (from to used : ℕ) → from + used ≤ to
    → take (to - (to - ((to - from) - used))) (drop (to - ((to - from) - used)) bytes) ≡ drop used (take (to - from) (drop from bytes))
unread-advanced bytes from to used fits =
    let place : to - ((to - from) - used) ≡ from + used = omega (arith, fits) in
    ap (λ (n : ℕ). take (to - n) (drop n bytes)) place ∙ unread-after bytes from to used fits

-- how many bytes are unread
pub unread-length : (bytes : List ℕ) (from to : ℕ) → from ≤ to → to ≤ length bytes → length (take (to - from) (drop from bytes)) ≡ to - from
unread-length bytes from to in_order within = omega (arith, length-take (to - from) (drop from bytes), length-drop from bytes)

-- a text that begins with this
pub front-cut : (text front rest : List ℕ) (n : ℕ) → text ≡ front ++ rest → n ≡ length front → text ≡ front ++ drop n text
front-cut text front rest n e is = grind (arith, drop_front)

-- the unread bytes begin with a line and its newline
takes-end : (most : ℕ) (text next line longer part after : List ℕ) → take most text ≡ part ++ newline ∷ after → IsLine part
    → longer ≡ line ++ part
    → next ≡ drop (length part + 1) text → TakesEnd most (record { unread = text; line = line }) (record { unread = next; line = longer })
takes-end most text next line longer part after cut is_line grown left =
    let front = part ++ newline ∷ [] in
    let long : length part + 1 ≡ length front = sym (length-append part (newline ∷ [])) in
    let whole : text ≡ front ++ (after ++ drop most text) =
    sym (take-append-drop most text) ∙ ap (λ (xs : List ℕ). xs ++ drop most text) (cut ∙ sym (append_assoc part (newline ∷ []) after))
    ∙ append_assoc front after (drop most text) in
    let count : length (take most text) ≡ length part + length (newline ∷ after) = ap length cut ∙ length-append part (newline ∷ after) in
    record {
      part = part;
      is_line = is_line;
      cut = front-cut text front (after ++ drop most text) (length part + 1) whole long ∙ ap (λ (xs : List ℕ). front ++ xs) (sym left);
      longer = grown;
      fits = omega (arith, count, length-take most text);
    }

-- they are a front of a line
takes-front : (most : ℕ) (text next line longer front : List ℕ) → front ≡ take most text → IsLine front → longer ≡ line ++ front
    → next ≡ drop (length front) text → TakesFront most (record { unread = text; line = line }) (record { unread = next; line = longer })
takes-front most text next line longer front is is_line grown left =
    grind (arith, nat_tests, common_steps, front-cut, take-append-drop, length-take, drop_all)

-- the unread bytes have room for a line and its newline
has-room : (bytes : List ℕ) (from to most : ℕ) (part after : List ℕ) → from ≤ to → to ≤ length bytes
    → take most (take (to - from) (drop from bytes)) ≡ part ++ newline ∷ after → from + (length part + 1) ≤ to
has-room bytes from to most part after in_order within cut =
    let text = take (to - from) (drop from bytes) in
    let count : length (take most text) ≡ length part + length (newline ∷ after) = ap length cut ∙ length-append part (newline ∷ after) in
    omega (arith, count, length-take most text, unread-length bytes from to in_order within)

pub end_taken : (bytes : List ℕ) (from to most : ℕ) (line longer front part after : List ℕ) → from ≤ to → to ≤ length bytes
    → front ≡ take most (take (to - from) (drop from bytes)) → front ≡ part ++ newline ∷ after → IsLine part → longer ≡ line ++ part
    → TakesEnd most (record { unread = take (to - from) (drop from bytes); line = line })
    (record { unread = take (to - (from + (length part + 1))) (drop (from + (length part + 1)) bytes); line = longer })
end_taken bytes from to most line longer front part after in_order within is cut is_line grown =
    let cut = sym is ∙ cut in
    takes-end most (take (to - from) (drop from bytes)) _ line longer part after cut is_line grown
    (unread-after bytes from to (length part + 1) (has-room bytes from to most part after in_order within cut))

pub front_taken : (bytes : List ℕ) (from to most : ℕ) (line longer front : List ℕ) → from ≤ to → to ≤ length bytes
    → front ≡ take most (take (to - from) (drop from bytes)) → IsLine front → longer ≡ line ++ front
    → TakesFront most (record { unread = take (to - from) (drop from bytes); line = line })
    (record { unread = take (to - (from + length front)) (drop (from + length front) bytes); line = longer })
front_taken bytes from to most line longer front in_order within is is_line grown =
    let text = take (to - from) (drop from bytes) in
    takes-front most text _ line longer front is is_line grown
    (unread-after bytes from to (length front)
    (let room : from + length front ≤ to =
    omega (arith, ap length is, length-take most text, unread-length bytes from to in_order within, in_order) in room))

taken-left : (known : Option (List ℕ)) (text next used : List ℕ) → text ≡ used ++ next
    → Consumes (prepend_known text known) (prepend_known next known) used
taken-left None text next used e = tt
taken-left (Some xs) text next used e = ap (λ (zs : List ℕ). zs ++ xs) e ∙ append_assoc used next xs

-- bytes that were taken, and then some that were unread
pub takes-more : (first source : StreamState) (text next taken used : List ℕ) → Gives first (at text source) taken → text ≡ used ++ next
    → Gives first (at next source) (taken ++ used)
takes-more first source text next taken used given e = grind (arith, nat_tests, common_steps, taken-left)

-- a line has begun, of which at most so many bytes are asked for
pub record Begun (most : ℕ) (first now : StreamState) (line : List ℕ) : Type 0 where
  pub given : Gives first now line
  pub is_line : IsLine line
  pub within : length line ≤ most

-- the input is over, or its source refused
-- as much was read as was asked for
pub ends-full : (most : ℕ) (first now : StreamState) (line : List ℕ) → Begun most first now line → length line ≡ most
    → ReadsLine most first now line (Ok Full)
ends-full most first now line begun full = record { is_line = begun.is_line; ends = (begun.given, full) }

-- what is unread grew by what a source gave, where nothing was
pub at-end : (known : Option (List ℕ)) (unread : List ℕ) → unread ≡ [] → IsAtEnd known → IsAtEnd (prepend_known unread known)
at-end None unread e h = tt
at-end (Some xs) unread e h = ap (λ (zs : List ℕ). zs ++ xs) e ∙ h

-- so many bytes were skipped, and these are left
pub record Skipped (count : ℕ) (first now : StreamState) (left : ℕ) : Type 0 where
  pub bytes : List ℕ
  pub given : Gives first now bytes
  pub counted : length bytes + left ≡ count

-- all that was unread is skipped
pub Skipped-all : (count : ℕ) (first source : StreamState) (text next : List ℕ) (left less : ℕ) → next ≡ [] → less + length text ≡ left
    → Skipped count first (at text source) left → Skipped count first (at next source) less
Skipped-all count first source text next left less none fewer h = record {
  bytes = h.bytes ++ text;
  given = takes-more first source text next h.bytes text h.given (sym (append-nil text) ∙ ap (λ (xs : List ℕ). text ++ xs) (sym none));
  counted = omega (arith, length-append h.bytes text, h.counted, fewer);
}

pub Skipped-kept : (count : ℕ) (first now new : StreamState) (left : ℕ) → Skipped count first now left → Keeps now.bytes new.bytes
    → Skipped count first new left
Skipped-kept count first now new left h kept = grind (arith)

-- all that was unread is skipped, and more is asked for
pub skips-on : (count : ℕ) (first source : StreamState) (bytes : List ℕ) (from to left : ℕ) → from ≤ to → to ≤ length bytes
    → to - from < left
    → Skipped count first (at (take (to - from) (drop from bytes)) source) left
    → Skipped count first (at (take (to - to) (drop to bytes)) source) (left - (to - from))
skips-on count first source bytes from to left in_order within few h =
    let none : to - to ≡ 0 = omega arith in
    Skipped-all count first source (take (to - from) (drop from bytes)) (take (to - to) (drop to bytes)) left (left - (to - from))
    (ap (λ (n : ℕ). take n (drop to bytes)) none)
    (omega (arith, unread-length bytes from to in_order within, few)) h

-- the input is over, or its source refused, before all is skipped
pub skips-out : (count : ℕ) (first now new : StreamState) (unread : List ℕ) (left : ℕ) (more : Bool) → more ≡ false → 0 < left
    → Skipped count first now left
    → Refills unread now new (Ok more) → Skips count first new (Ok false)
skips-out count first now new unread left true e some h r = cc
skips-out count first now new unread left false e some h r = grind (arith, Skipped-kept)

pub skips-fault : (count : ℕ) (first now new : StreamState) (unread : List ℕ) (left : ℕ) (kind : ErrorKind) → 0 < left
    → Skipped count first now left
    → Refills unread now new (Err kind) → Skips count first new (Err kind)
skips-fault count first now new unread left kind some h r = grind (arith, Skipped-kept)

-- the last bytes to skip are unread
pub skips-last : (count : ℕ) (first source : StreamState) (text next : List ℕ) (left : ℕ) → left ≤ length text → next ≡ drop left text
    → Skipped count first (at text source) left → Skips count first (at next source) (Ok true)
skips-last count first source text next left few is h = record {
  bytes = h.bytes ++ take left text;
  given = takes-more first source text next h.bytes (take left text) h.given
      (sym (take-append-drop left text) ∙ ap (λ (xs : List ℕ). take left text ++ xs) (sym is));
  ends = omega (arith, length-append h.bytes (take left text), length-take left text, h.counted, few);
}

pub advanced : (bytes : List ℕ) (from to used place : ℕ) → from ≤ to → to ≤ length bytes
    → used ≤ length (take (to - from) (drop from bytes))
    → place ≡ to - ((to - from) - used) → take (to - place) (drop place bytes) ≡ drop used (take (to - from) (drop from bytes))
advanced bytes from to used place in_order within few is =
    let fits : from + used ≤ to = omega (arith, few, unread-length bytes from to in_order within, in_order) in
    ap (λ (n : ℕ). take (to - n) (drop n bytes)) is ∙ unread-advanced bytes from to used fits
