-- Courses that write at once and make no file.
use Rattle.std.proofs.Common.{ℕ, Bool}
use Rattle.loc_spec_text.specs.Bytes.{Text}
use Rattle.loc_course.specs.Courses.{Source, Course, refuses, reads, searches, answers, writes, makes}
use Rattle.loc_course.specs.Sentences.{AtOnce, IsPlain, MayRefuseBehind}

pub plain_refuses : (passes : Text → Bool) → IsPlain (refuses passes)
plain_refuses passes = record { at_once = tt; makes_none = λ name maker. maker }

pub plain_writes : (passes : Text → Bool) → IsPlain (writes passes)
plain_writes passes = record { at_once = tt; makes_none = λ name maker. maker }

pub plain_searches : (k : ℕ) (c : Course) → IsPlain c → IsPlain (searches k c)
plain_searches k c plain = record { at_once = plain.at_once; makes_none = plain.makes_none }

pub plain_reads : (s : Source) (next : Text → Course) → ((text : Text) → IsPlain (next text)) → IsPlain (reads s next)
plain_reads s next plain = record { at_once = λ text. (plain text).at_once; makes_none = λ name maker. (plain maker.0).makes_none name maker.1 }

-- a course that writes at once refuses no file whose lines it answers
pub none_behind : (c : Course) (line : Text) → AtOnce c → MayRefuseBehind c line → ⊥
none_behind (refuses passes) line once by = by
none_behind (reads s next) line once by = none_behind (next by.0) line (once by.0) by.1
none_behind (searches k c) line once by = none_behind c line once by
none_behind (answers s searched each answer) line once by = once
none_behind (writes passes) line once by = by
none_behind (makes name passes) line once by = by
