-- Worked rows of the definitions.
use Rattle.std.proofs.Common.{◌≡◌, refl, [], ◌∷◌, ◌++◌, true, false, Ok, Err}
use Rattle.std.specs.Prelude.{codes}
use Rattle.gix_date.specs.Text.Characters.{newline}
use Rattle.gix_signature.specs.Ident.Fsck.{first_fault, fsck_of}
use Rattle.gix_signature.specs.Ident.Times.{c_number}
use Rattle.git_ident_tool.specs.Command.{asked, asked_from}
use Rattle.git_ident_tool.specs.Judging.{object_due}
use Rattle.gix_signature.specs.Objects.{own_header}
use Rattle.git_ident_tool.specs.Objects.{Object, object_text, read_header}
use Rattle.git_ident_tool.specs.Verdicts.{line_due, text_due}
use Rattle.git_ident_tool.specs.declared.error.HeaderFault.TheVariants.{BadHeader, BadSize, NoObject}
use Rattle.git_ident_tool.specs.declared.verdicts.Telling.TheVariants.{Faults, All}
use Rattle.git_ident_tool.specs.declared.program.Command.TheVariants.{Help, Judge}
use Rattle.git_ident_tool.specs.declared.program.WrongWords.TheVariants.{NoOption}
use Rattle.git_ident_tool.specs.declared.header.Kind.TheVariants.{Blob, Commit, Tag, Tree}

-- ---- headers

commit-header : read_header (codes "5ad2e0b7 commit 243") ≡ Ok (record { kind = Commit; size = 243 })
unfolding read_header
commit-header = refl

empty-tree-header : read_header (codes "4b825dc6 tree 0") ≡ Ok (record { kind = Tree; size = 0 })
unfolding read_header
empty-tree-header = refl

missing : read_header (codes "a b missing") ≡ Err NoObject
unfolding read_header
missing = refl

ambiguous : read_header (codes "ab ambiguous") ≡ Err NoObject
unfolding read_header
ambiguous = refl

other-kind : read_header (codes "5ad2e0b7 branch 243") ≡ Err BadHeader
unfolding read_header
other-kind = refl

no-size : read_header (codes "5ad2e0b7 tag ") ≡ Err BadSize
unfolding read_header
no-size = refl

signed-size : read_header (codes "5ad2e0b7 tag +5") ≡ Err BadSize
unfolding read_header
signed-size = refl

size-of-65-bits : read_header (codes "5ad2e0b7 tag 18446744073709551616") ≡ Err BadSize
unfolding read_header
size-of-65-bits = refl

-- ---- lines of an object's own header

ends-at-an-empty-line : own_header (codes "tree a" ++ newline ∷ codes "author b" ++ newline ∷ newline ∷ codes "author c" ++ newline ∷ [])
    ≡ codes "tree a" ∷ codes "author b" ∷ []
ends-at-an-empty-line = refl

ends-with-the-object : own_header (codes "tree a" ++ newline ∷ codes "author b") ≡ codes "tree a" ∷ codes "author b" ∷ []
ends-with-the-object = refl

begins-empty : own_header (newline ∷ codes "author b") ≡ []
begins-empty = refl

-- ---- what is due

of-an-author : line_due Faults (codes "5ad2") Commit (codes "author A <a> x") ≡ codes "5ad2 author badDate: A <a> x" ++ newline ∷ []
unfolding fsck_of first_fault c_number
of-an-author = refl

of-a-clean-author : line_due Faults (codes "5ad2") Commit (codes "author A <a> 5 +0000") ≡ []
unfolding fsck_of first_fault c_number
of-a-clean-author = refl

of-all-lines : line_due All (codes "5ad2") Tag (codes "tagger A <a> 5 +0000") ≡ codes "5ad2 tagger ok: A <a> 5 +0000" ++ newline ∷ []
unfolding fsck_of first_fault c_number
of-all-lines = refl

of-a-tagger-in-a-commit : line_due All (codes "5ad2") Commit (codes "tagger A <a> x") ≡ []
of-a-tagger-in-a-commit = refl

of-a-continued-line : line_due All (codes "5ad2") Commit (codes " author A <a> x") ≡ []
of-a-continued-line = refl

of-a-line-alone : text_due Faults (codes "A <a>") ≡ codes "missingSpaceBeforeDate: A <a>" ++ newline ∷ []
unfolding fsck_of first_fault c_number
of-a-line-alone = refl

bad-blob : Object
bad-blob = record { header = codes "5ad2 blob 14"; kind = Blob; contents = codes "author A <a> x" }

of-a-blob : object_due All bad-blob ≡ []
unfolding bad-blob
of-a-blob = refl

text-of-a-blob : object_text bad-blob ≡ codes "5ad2 blob 14" ++ newline ∷ codes "author A <a> x" ++ newline ∷ []
unfolding bad-blob
text-of-a-blob = refl

-- ---- words

no-word : asked [] ≡ Ok (Judge (record { telling = Faults; lines = false }))
unfolding asked_from
no-word = refl

both-options : asked (codes "--lines" ∷ codes "--all" ∷ []) ≡ Ok (Judge (record { telling = All; lines = true }))
unfolding asked_from
both-options = refl

help : asked (codes "--all" ∷ codes "-h" ∷ codes "x" ∷ []) ≡ Ok Help
unfolding asked_from
help = refl

another-word : asked (codes "--al" ∷ []) ≡ Err NoOption
unfolding asked_from
another-word = refl
