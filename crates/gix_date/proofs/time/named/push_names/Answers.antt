use Rattle.std.proofs.Common.{refl}
use Rattle.gix_date.specs.Printing.NamedTexts.{rfc2822_pattern, rfc2822_text, git_rfc2822_pattern, git_rfc2822_text, gitoxide_pattern}
use Rattle.gix_date.specs.Printing.NamedTexts.{gitoxide_text, default_pattern, default_text}
use Rattle.gix_date.proofs.Printing.Appended.{begun}
use Rattle.gix_date.proofs.Printing.NamedTexts.{formats_printed}
use Rattle.gix_date.proofs.Printing.ShownTexts.{named-shown}
use Rattle.gix_date.proofs.time.named.push_names.Goals as goal

pub returns-then-is_pattern-clause-shown : goal.returns-then-is_pattern-clause-shown
returns-then-is_pattern-clause-shown c = named-shown c.args.pattern.now default_pattern default_text c.args.t c.push_default.new.text.bytes
    formats_printed.default.always (c.if-is_pattern.ensures.0 refl)
    (begun _ _ (default_text c.args.t) c.requires.empty c.push_default.ensures.bytes)

pub returns-then-is_pattern-2-clause-shown : goal.returns-then-is_pattern-2-clause-shown
returns-then-is_pattern-2-clause-shown c = named-shown c.args.pattern.now rfc2822_pattern rfc2822_text c.args.t
    c.push_rfc2822.new.text.bytes formats_printed.rfc2822.always (c.if-is_pattern-2.ensures.0 refl)
    (begun _ _ (rfc2822_text c.args.t) c.requires.empty c.push_rfc2822.ensures.bytes)

pub returns-then-is_pattern-3-clause-shown : goal.returns-then-is_pattern-3-clause-shown
returns-then-is_pattern-3-clause-shown c = named-shown c.args.pattern.now git_rfc2822_pattern git_rfc2822_text c.args.t
    c.push_git_rfc2822.new.text.bytes formats_printed.git_rfc2822.always (c.if-is_pattern-3.ensures.0 refl)
    (begun _ _ (git_rfc2822_text c.args.t) c.requires.empty c.push_git_rfc2822.ensures.bytes)

pub returns-then-is_pattern-4-clause-shown : goal.returns-then-is_pattern-4-clause-shown
returns-then-is_pattern-4-clause-shown c = named-shown c.args.pattern.now gitoxide_pattern gitoxide_text c.args.t
    c.push_gitoxide.new.text.bytes formats_printed.gitoxide.always (c.if-is_pattern-4.ensures.0 refl)
    (begun _ _ (gitoxide_text c.args.t) c.requires.empty c.push_gitoxide.ensures.bytes)
