use Rattle.dkv_app.proofs.report.write_line.Goals as goal

pub returns-in-NoDatabase-clause-front : goal.returns-in-NoDatabase-clause-front
returns-in-NoDatabase-clause-front g c = rw c.in-NoDatabase.is c.write-in-NoDatabase.ensures.front

pub returns-in-Exists-clause-all : goal.returns-in-Exists-clause-all
returns-in-Exists-clause-all g c = rw c.in-Exists.is c.write-in-Exists.ensures.all

pub returns-in-Exists-clause-front : goal.returns-in-Exists-clause-front
returns-in-Exists-clause-front g c = rw c.in-Exists.is c.write-in-Exists.ensures.front

pub returns-in-RandomFault-clause-all : goal.returns-in-RandomFault-clause-all
returns-in-RandomFault-clause-all g c = rw c.in-RandomFault.is c.write-in-RandomFault.ensures.all

pub returns-in-RandomFault-clause-front : goal.returns-in-RandomFault-clause-front
returns-in-RandomFault-clause-front g c = rw c.in-RandomFault.is c.write-in-RandomFault.ensures.front

pub returns-in-NotBuilt-clause-all : goal.returns-in-NotBuilt-clause-all
returns-in-NotBuilt-clause-all g c = rw c.in-NotBuilt.is c.write_numbered-in-NotBuilt.ensures.all

pub returns-in-NotBuilt-clause-front : goal.returns-in-NotBuilt-clause-front
returns-in-NotBuilt-clause-front g c = rw c.in-NotBuilt.is c.write_numbered-in-NotBuilt.ensures.front
