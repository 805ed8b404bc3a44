use Rattle.saned_cli.proofs.daemon_ending.DaemonEnding.tell.Goals as goal

pub returns-in-Config : goal.returns-in-Config
returns-in-Config g c = rw c.in-Config.is (rw c.text.ensures at c.write_refusal.ensures)

pub returns-in-Page : goal.returns-in-Page
returns-in-Page g c = rw c.in-Page.is (rw c.text-in-Page.ensures at c.write_refusal-in-Page.ensures)

pub returns-in-Users : goal.returns-in-Users
returns-in-Users g c = rw c.in-Users.is (rw c.text-in-Users.ensures at c.write_refusal-in-Users.ensures)

pub returns-in-BadCommandLine : goal.returns-in-BadCommandLine
returns-in-BadCommandLine g c = rw c.in-BadCommandLine.is c.write_text.ensures

pub returns-in-BadSeed : goal.returns-in-BadSeed
returns-in-BadSeed g c = rw c.in-BadSeed.is c.write_text-in-BadSeed.ensures

pub returns-in-CannotRead : goal.returns-in-CannotRead
returns-in-CannotRead g c = rw c.in-CannotRead.is (rw (c.as_bytes.ensures.value, c.as_str.ensures.value) at c.write_line.ensures)

pub returns-in-CannotListen : goal.returns-in-CannotListen
returns-in-CannotListen g c = rw c.in-CannotListen.is c.write_text-in-CannotListen.ensures

pub returns-in-NoMemory : goal.returns-in-NoMemory
returns-in-NoMemory g c = rw c.in-NoMemory.is c.write_text-in-NoMemory.ensures

pub returns-in-CannotWrite : goal.returns-in-CannotWrite
returns-in-CannotWrite g c = rw c.in-CannotWrite.is c.write_text-in-CannotWrite.ensures
