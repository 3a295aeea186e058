-- What is promised of the exchange, over the law that the units of a command do what the call of flash does.
use Rattle.opcodes.specs.declared.Dialect.{Dialect}
use Rattle.sent.specs.declared.Bus.{Bus}
use Rattle.law_line.proofs.Line.{on_the_line}
use Rattle.law_exchange.specs.claims.Course.{SameCourse}
use Rattle.law_exchange.specs.claims.Entering.{EntersExactlyWhen}
use Rattle.law_exchange.specs.claims.Worked.{Worked}
use Rattle.law_exchange.proofs.Course as course
use Rattle.law_exchange.proofs.Entering as entering
use Rattle.law_exchange.proofs.Worked as worked

pub same_course : SameCourse
same_course = course.same_course on_the_line

pub exactly_when : EntersExactlyWhen
exactly_when = entering.exactly_when on_the_line

pub works : (bus : Bus) (dialect : Dialect) → Worked bus dialect
works = worked.worked on_the_line
