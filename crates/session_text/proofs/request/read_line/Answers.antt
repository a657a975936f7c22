use Rattle.session_text.specs.Meaning.{asked}
use Rattle.session_text.proofs.Words.{more_words, two_words}
use Rattle.session_text.proofs.request.read_line.Goals as goal

pub returns-in-None-cut : goal.returns-in-None-cut
returns-in-None-cut c = two_words c.args.line.now c.in-Some.command.now c.in-Some.rest.now (asked c.read_words.result) c.in-Some.ensures.some c.in-None-cut.ensures.none c.read_words.ensures

pub returns-in-Some-cut : goal.returns-in-Some-cut
returns-in-Some-cut c = more_words c.args.line.now c.in-Some.command.now c.in-Some-cut.field-0.0.now c.in-Some.rest.now c.in-Some-cut.field-0.1.now c.in-Some.ensures.some c.in-Some-cut.ensures.some
