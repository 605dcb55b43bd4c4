use Rattle.std.proofs.Common.{rules}
use Rattle.krb_commands.proofs.LineLemmas.{lines_of-found, lines_of-missed, lines_of-empty}
use Rattle.krb_commands.proofs.lines.first_line.Goals as goal

pub returns-in-Some-clause-line : goal.returns-in-Some-clause-line
returns-in-Some-clause-line c = lines_of-found c.args.text.now c.in-Some.end (search rules)

pub returns-in-None-clause-line : goal.returns-in-None-clause-line
returns-in-None-clause-line c = lines_of-empty c.args.text.now (search rules)

pub returns-in-None-2-clause-line : goal.returns-in-None-2-clause-line
returns-in-None-2-clause-line c = lines_of-missed c.args.text.now (search rules) (search rules)
