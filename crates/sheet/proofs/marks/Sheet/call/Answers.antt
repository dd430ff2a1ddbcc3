use Rattle.std.proofs.Common.{rules}
use Rattle.sheet.proofs.History.{called}
use Rattle.sheet.proofs.marks.Sheet.call.Goals as goal

pub returns-in-Put-clause-history : goal.returns-in-Put-clause-history
returns-in-Put-clause-history g c = called c.args.call c.args.self.now c.put.new.self (search rules)

pub returns-in-Blot-clause-history : goal.returns-in-Blot-clause-history
returns-in-Blot-clause-history g c = called c.args.call c.args.self.now c.blot.new.self (search rules)

pub returns-in-Wipe-clause-history : goal.returns-in-Wipe-clause-history
returns-in-Wipe-clause-history g c = called c.args.call c.args.self.now c.wipe.new.self (search rules)

pub returns-in-Read-clause-history : goal.returns-in-Read-clause-history
returns-in-Read-clause-history g c = called c.args.call c.args.self.now c.args.self.now (search rules)
