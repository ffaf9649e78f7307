-- Identity lines that the definitions are checked on, with what Git makes of them.
use Rattle.std.proofs.Common.{◌≡◌, ℕ, ℤ, Bool, true, false, List, [], ◌∷◌, ◌++◌, pos, negsuc, Option, None, Some, option_map, Ok, Err, refl}
use Rattle.std.specs.Fmt.{digits}
use Rattle.std.specs.Prelude.{codes}
use Rattle.gix_date.specs.Header.Text.{header_text}
use Rattle.gix_date.specs.declared.time.Time.{Time}
use Rattle.gix_signature.specs.Ident.Bytes.{is_crud}
use Rattle.gix_signature.specs.Ident.Parts.{DateText, IdentText, date_parts, line_parts, ident_parts}
use Rattle.gix_signature.specs.Ident.Times.{git_time, git_time_text, time_of_git, c_number}
use Rattle.gix_signature.specs.Ident.Again.{is_line_of}
use Rattle.gix_signature.specs.Ident.Fsck.{fsck_of, first_fault}
use Rattle.gix_signature.specs.Ident.Due.{cleaned, ident_due}
use Rattle.gix_signature.specs.Objects.{first_named, last_named}
use Rattle.gix_signature.specs.declared.error.IdentFault.TheVariants.{NulInPart, EmptyName, OnlyCrud, BeforeEpoch, OffsetTooWide}
use Rattle.gix_signature.specs.declared.fsck.FsckFault.{FsckFault}
use Rattle.gix_signature.specs.declared.fsck.FsckId.{FsckId}
use Rattle.gix_signature.specs.declared.fsck.FsckId.TheVariants.{NulInHeader, MissingNameBeforeEmail, BadName, MissingEmail}
use Rattle.gix_signature.specs.declared.fsck.FsckId.TheVariants.{MissingSpaceBeforeEmail, BadEmail, MissingSpaceBeforeDate, ZeroPaddedDate}
use Rattle.gix_signature.specs.declared.fsck.FsckId.TheVariants.{BadDateOverflow, BadDate, BadTimezone}
use Rattle.gix_signature.specs.declared.ident.GitTime.{GitTime}
use Rattle.gix_signature.specs.declared.object.Role.TheVariants.{Author, Committer, Tagger}

abbrev date : List ℕ → List ℕ → DateText
date seconds offset = record { seconds = seconds; offset = offset }

abbrev shown : List ℕ → List ℕ → Option DateText → Option IdentText
shown name email when = Some (record { name = name; email = email; date = when })

-- lines with a date
dated : (ident_parts (codes "A U Thor <a@b> 5 +0100") ≡ shown (codes "A U Thor") (codes "a@b") (Some (date (codes "5") (codes "+0100"))))
    × (ident_parts (codes "A\t<a@b>5+0100") ≡ shown (codes "A") (codes "a@b") (Some (date (codes "5") (codes "+0100"))))
    × (ident_parts (codes " A <a@b>\t05 \t+00100") ≡ shown (codes " A") (codes "a@b") (Some (date (codes "05") (codes "+00100"))))
    × (ident_parts (codes "A <a@b> 5 +05:30") ≡ shown (codes "A") (codes "a@b") (Some (date (codes "5") (codes "+05"))))
    × (ident_parts (codes "A <a@b> <c> 5 +0100") ≡ shown (codes "A") (codes "a@b") (Some (date (codes "5") (codes "+0100"))))
    × (ident_parts (codes "<@bar> 123456 -0100 x") ≡ shown [] (codes "@bar") (Some (date (codes "123456") (codes "-0100"))))
    × (ident_parts (codes "> <> 5 -0000\n") ≡ shown (codes ">") [] (Some (date (codes "5") (codes "-0000"))))
unfolding line_parts date_parts
dated = (refl, refl, refl, refl, refl, refl, refl)

-- lines without a date
undated : (ident_parts (codes "A <a@b>") ≡ shown (codes "A") (codes "a@b") None)
    × (ident_parts (codes "A <a@b> 5") ≡ shown (codes "A") (codes "a@b") None)
    × (ident_parts (codes "A <a@b> 5x +0100") ≡ shown (codes "A") (codes "a@b") None)
    × (ident_parts (codes "A <a@b> 5 +") ≡ shown (codes "A") (codes "a@b") None)
    × (ident_parts (codes "A <a@b> -5 +0000") ≡ shown (codes "A") (codes "a@b") None)
    × (ident_parts (codes "A <a@b> 5 +0000 >") ≡ shown (codes "A") (codes "a@b") None)
    × (ident_parts (codes "A <a@b>\n5 +0000") ≡ shown (codes "A") (codes "a@b") None)
    × (ident_parts (codes "A <a@b>" ++ 11 ∷ codes "5 +0000") ≡ shown (codes "A") (codes "a@b") None)
unfolding line_parts date_parts
undated = (refl, refl, refl, refl, refl, refl, refl, refl)

-- lines without an identity
nobody : (ident_parts (codes "A a@b> 5 +0000") ≡ None) × (ident_parts (codes "A <a@b 5 +0000") ≡ None)
    × (ident_parts (codes "A >a< 5 +0000") ≡ None)
    × (ident_parts (codes "A\n<a@b> 5 +0000") ≡ None) × (ident_parts (codes "A" ++ 0 ∷ codes "<a@b> 5 +0000") ≡ None)
    × (ident_parts [] ≡ None)
unfolding line_parts date_parts
nobody = (refl, refl, refl, refl, refl, refl)

-- times, and those of seconds and an offset
abbrev at : ℕ → ℤ → GitTime
at seconds offset = record { seconds = pos seconds; offset = offset; minus_zero = false }

abbrev minus_at : ℕ → GitTime
minus_at seconds = record { seconds = pos seconds; offset = pos 0; minus_zero = true }

times : (git_time (date (codes "5") (codes "+0530")) ≡ at 5 (pos 530))
    × (git_time (date (codes "5") (codes "-0001")) ≡ at 5 (negsuc 0))
    × (git_time (date (codes "5") (codes "-0000")) ≡ minus_at 5)
    × (git_time (date (codes "9223372036854775807") (codes "+0")) ≡ at 9223372036854775807 (pos 0))
    × (git_time (date (codes "9223372036854775808") (codes "-0800")) ≡ at 0 (pos 0))
    × (git_time (date (codes "5") (codes "+2147483646")) ≡ at 5 (pos 2147483646))
    × (git_time (date (codes "5") (codes "+2147483647")) ≡ at 5 (pos 0))
    × (git_time (date (codes "5") (codes "-2147483647")) ≡ at 5 (negsuc 2147483646))
    × (git_time (date (codes "5") (codes "-2147483648")) ≡ minus_at 5)
unfolding git_time
times = (refl, refl, refl, refl, refl, refl, refl, refl, refl)

converted : (time_of_git (at 5 (pos 60)) ≡ Ok (record { seconds = pos 5; offset = pos 3600 }))
    × (time_of_git (minus_at 5) ≡ Ok (record { seconds = pos 5; offset = pos 0 }))
    × (time_of_git (at 5 (pos 9999)) ≡ Ok (record { seconds = pos 5; offset = pos 362340 }))
    × (time_of_git (at 5 (negsuc 129)) ≡ Ok (record { seconds = pos 5; offset = negsuc 5399 }))
    × (time_of_git (at 5 (pos 59652314)) ≡ Ok (record { seconds = pos 5; offset = pos 2147483640 }))
    × (time_of_git (at 5 (pos 59652315)) ≡ Err OffsetTooWide)
unfolding time_of_git
converted = (refl, refl, refl, refl, refl, refl)

-- times as a line has them
time_texts : (git_time_text (at 5 (pos 530)) ≡ codes "5 +0530") × (git_time_text (minus_at 5) ≡ codes "5 -0000")
    × (git_time_text (at 5 (negsuc 59)) ≡ codes "5 -0060") × (git_time_text (at 5 (pos 51800)) ≡ codes "5 +51800")
    × (git_time_text (record { seconds = negsuc 4; offset = negsuc 0; minus_zero = true }) ≡ codes "-5 -0001")
unfolding digits
time_texts = (refl, refl, refl, refl, refl)

-- whether what was read is written as it stood
abbrev back : List ℕ → Option Bool
back line = option_map (is_line_of line) (ident_parts line)

written_again : (back (codes "A <a@b> 5 -0000") ≡ Some true) × (back (codes " <> 0 +0060") ≡ Some true)
    × (back (codes "A  <a@b> 5 +0000") ≡ Some false) × (back (codes "A <a@b> 05 +0000") ≡ Some false)
    × (back (codes "A <a@b> 5 +00") ≡ Some false)
    × (back (codes "A <a@b> 5 +0000 ") ≡ Some false) × (back (codes "A <a@b> 5 --700") ≡ Some false)
    × (back (codes "A <a@b> <c> 5 +0000") ≡ Some false)
unfolding line_parts date_parts git_time digits
written_again = (refl, refl, refl, refl, refl, refl, refl, refl)

-- numbers as C reads them
numbers : (c_number (codes " \n5 x") ≡ Some (5, codes " x")) × (c_number (codes "+5") ≡ Some (5, []))
    × (c_number (codes "-0") ≡ Some (0, []))
    × (c_number (codes "-18446744073709551615 ") ≡ Some (1, codes " ")) × (c_number (codes "-5") ≡ Some (18446744073709551611, []))
    × (c_number (codes "-18446744073709551616") ≡ Some (18446744073709551615, [])) × (c_number (codes "x") ≡ None)
    × (c_number (codes "- 5") ≡ None)
unfolding c_number
numbers = (refl, refl, refl, refl, refl, refl, refl, refl)

abbrev fault : FsckId → ℕ → Option FsckFault
fault id place = Some (record { id = id; place = place })

-- what fsck says, by name
names : (fsck_of (codes "<a> 5 +0000") ≡ fault MissingNameBeforeEmail 0) × (fsck_of (codes "A >a< 5 +0000") ≡ fault BadName 2)
    × (fsck_of (codes "A a 5 +0000") ≡ fault MissingEmail 11) × (fsck_of (codes "A<a> 5 +0000") ≡ fault MissingSpaceBeforeEmail 1)
    × (fsck_of (codes "A <a<b> 5 +0000") ≡ fault BadEmail 4) × (fsck_of (codes "A <a 5 +0000") ≡ fault BadEmail 12)
    × (fsck_of (codes "A <a>5 +0000") ≡ fault MissingSpaceBeforeDate 5)
    × (fsck_of (codes "A" ++ 0 ∷ codes "<a> 5 +0000") ≡ fault NulInHeader 1)
unfolding fsck_of first_fault c_number
names = (refl, refl, refl, refl, refl, refl, refl, refl)

-- what fsck says, by date
dates : (fsck_of (codes "A <a> 05 +0000") ≡ fault ZeroPaddedDate 6)
    × (fsck_of (codes "A <a> 9223372036854775808 +0000") ≡ fault BadDateOverflow 6)
    × (fsck_of (codes "A <a> -5 +0000") ≡ fault BadDateOverflow 6)
    × (fsck_of (codes "A <a> 99999999999999999999x") ≡ fault BadDateOverflow 6)
    × (fsck_of (codes "A <a> ") ≡ fault BadDate 6) × (fsck_of (codes "A <a> 5+0000") ≡ fault BadDate 6)
    × (fsck_of (codes "A <a> 5 0000") ≡ fault BadTimezone 8) × (fsck_of (codes "A <a> 5 +0000 ") ≡ fault BadTimezone 8)
unfolding fsck_of first_fault c_number
dates = (refl, refl, refl, refl, refl, refl, refl, refl)

-- what passes
passing : (fsck_of (codes "A <a> 5 +0000") ≡ None) × (fsck_of (codes " <> 0 +9999\n<") ≡ None) × (fsck_of (codes "A <a>   05 -0060") ≡ None)
    × (fsck_of (codes "A <a> +5 +0000") ≡ None) × (fsck_of (codes "A <a> -0 +0000") ≡ None)
    × (fsck_of (codes "A <a> " ++ 12 ∷ codes "5 +0000") ≡ None)
unfolding fsck_of first_fault c_number
passing = (refl, refl, refl, refl, refl, refl)

-- crud: the bytes 1 and 32, and not 0, 33, 127 and 128
edges : (is_crud 0 ≡ false) × (is_crud 1 ≡ true) × (is_crud 32 ≡ true) × (is_crud 33 ≡ false) × (is_crud 127 ≡ false)
    × (is_crud 128 ≡ false)
edges = (refl, refl, refl, refl, refl, refl)

abbrev now : Time
now = record { seconds = pos 5; offset = pos 3600 }

-- what is written
written : (cleaned (codes ". A <x> \"B\"") ≡ codes "A x \"B") × (ident_due (codes "A") (codes "...") now ≡ Ok (codes "A <> 5 +0100"))
    × (ident_due (codes "'A\nB'") (codes "<a>b") now ≡ Ok (codes "AB <ab> 5 +0100"))
unfolding ident_due header_text digits
written = (refl, refl, refl)

-- what is not, the first refusal first
refused : (ident_due [] (0 ∷ []) now ≡ Err NulInPart)
    × (ident_due [] (codes "a") (record { seconds = negsuc 0; offset = pos 0 }) ≡ Err EmptyName)
    × (ident_due (codes ".,:;<>\"\\'") (codes "a") (record { seconds = negsuc 0; offset = pos 0 }) ≡ Err OnlyCrud)
    × (ident_due (codes "A") (codes "a") (record { seconds = negsuc 0; offset = pos 360000 }) ≡ Err BeforeEpoch)
    × (ident_due (codes "A") (codes "a") (record { seconds = pos 0; offset = pos 360000 }) ≡ Err OffsetTooWide)
unfolding ident_due header_text digits
refused = (refl, refl, refl, refl, refl)

-- a commit of two authors, and a line of its message
abbrev commit : List ℕ
commit = codes "tree 4b82\nauthor A <a> 1 +0000\nauthor B <b> 2 +0000\ncommitter C <c> 3 +0000\n\nauthor D <d> 4 +0000\n"

-- whom `git for-each-ref` shows first, and `git log` last
named_lines : (first_named Author commit ≡ Some (codes "A <a> 1 +0000")) × (last_named Author commit ≡ Some (codes "B <b> 2 +0000"))
    × (last_named Committer commit ≡ Some (codes "C <c> 3 +0000")) × (first_named Tagger commit ≡ None)
    × (last_named Tagger (codes "object 4b82\ntagger T <t> 1 +0000") ≡ Some (codes "T <t> 1 +0000"))
    × (first_named Author (codes "\nauthor A <a> 1 +0000") ≡ None)
named_lines = (refl, refl, refl, refl, refl, refl)
