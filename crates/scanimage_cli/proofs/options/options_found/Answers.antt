use Rattle.std.proofs.Common.{◌∙◌, refl}
use Rattle.std.specs.Str.Parse.{ExplainsUnsignedError, HasUnsignedDigitsIfOk, ParsesUnsigned}
use Rattle.std.proofs.lemmas.Result.{err_from_is_err_and}
use Rattle.clap.specs.Words.{found_of}
use Rattle.scanimage_cli.specs.declared.program_option.ProgramOption.TheVariants.{Net, DialFirst, User, PasswordFile, Batch}
use Rattle.scanimage_cli.proofs.OptionsFound.{count_read, flag_read, port_read}
use Rattle.scanimage_cli.proofs.options.options_found.Goals as goal

pub returns-in_err-net-clause-refused : goal.returns-in_err-net-clause-refused
returns-in_err-net-clause-refused c =
    let p = err_from_is_err_and c.from_residual-in_err-net.result c.from_residual-in_err-net.ensures.1 in
    rw (p.1, p.2) (λ bad found options read. c.in_err-net.ensures.err bad (c.get_str-4.ensures ∙ found.values_are Net refl))

pub returns-in_err-port-clause-refused : goal.returns-in_err-port-clause-refused
returns-in_err-port-clause-refused c =
    let p = err_from_is_err_and c.from_residual-in_err-port.result c.from_residual-in_err-port.ensures.1 in
    rw (p.1, p.2) (λ bad found options read.
    let got = port_read (λ bs r. ParsesUnsigned 16 10 bs r × ExplainsUnsignedError 10 bs r × HasUnsignedDigitsIfOk bs r)
    (λ u x g. g.0) _ _ c.get_one.result options.port read.port read.range found.port c.get_one.ensures.none c.get_one.ensures.value in
    c.in_err-port.ensures.err bad got.0 got.1)

pub returns-in_err-dial_first-clause-refused : goal.returns-in_err-dial_first-clause-refused
returns-in_err-dial_first-clause-refused c =
    let p = err_from_is_err_and c.from_residual-in_err-dial_first.result c.from_residual-in_err-dial_first.ensures.1 in
    rw (p.1, p.2) (λ bad found options read. c.in_err-dial_first.ensures.err.1
    (flag_read DialFirst c.args.words.now (found_of c.args.found.now) c.get_flag-4.result
    (found.flags DialFirst refl) c.get_flag-4.ensures.value c.get_flag-4.ensures.other))

pub returns-in_err-user-clause-refused : goal.returns-in_err-user-clause-refused
returns-in_err-user-clause-refused c =
    let p = err_from_is_err_and c.from_residual-in_err-user.result c.from_residual-in_err-user.ensures.1 in
    rw (p.1, p.2) (λ bad found options read. c.in_err-user.ensures.err bad (c.get_str-5.ensures ∙ found.values_are User refl))

pub returns-in_err-password_file-clause-refused : goal.returns-in_err-password_file-clause-refused
returns-in_err-password_file-clause-refused c =
    let p = err_from_is_err_and c.from_residual-in_err-password_file.result c.from_residual-in_err-password_file.ensures.1 in
    rw (p.1, p.2) (λ bad found options read. c.in_err-password_file.ensures.err bad (c.get_str-6.ensures ∙ found.values_are PasswordFile refl))

pub returns-in_err-batch-clause-refused : goal.returns-in_err-batch-clause-refused
returns-in_err-batch-clause-refused c =
    let p = err_from_is_err_and c.from_residual-in_err-batch.result c.from_residual-in_err-batch.ensures.1 in
    rw (p.1, p.2) (λ bad found options read. c.in_err-batch.ensures.err.1
    (flag_read Batch c.args.words.now (found_of c.args.found.now) c.get_flag-5.result
    (found.flags Batch refl) c.get_flag-5.ensures.value c.get_flag-5.ensures.other))

pub returns-in_err-batch_count-clause-refused : goal.returns-in_err-batch_count-clause-refused
returns-in_err-batch_count-clause-refused c =
    let p = err_from_is_err_and c.from_residual-in_err-batch_count.result c.from_residual-in_err-batch_count.ensures.1 in
    rw (p.1, p.2) (λ bad found options read.
    c.in_err-batch_count.ensures.err.1 (count_read (λ bs r. ParsesUnsigned 32 10 bs r × ExplainsUnsignedError 10 bs r × HasUnsignedDigitsIfOk bs r)
    (λ u x g. g.0) _ _ c.get_one-2.result options.batch_count read.batch_count found.count c.get_one-2.ensures.none c.get_one-2.ensures.value))
