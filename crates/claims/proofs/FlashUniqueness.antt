-- Two results that meet one contract of the flash session, its answers, its commands or a call coincide, as for every other public function (`Uniqueness`), and
-- so do the memories at exit.
use Rattle.flash_session.proofs.is_length.Reads as is-length
use Rattle.flash_session.proofs.is_image.Reads as is-image
use Rattle.flash_session.proofs.Session.«open».Reads as opening
use Rattle.flash_session.proofs.Session.open_numbering.Reads as numbering
use Rattle.flash_session.proofs.answers.keep.Reads as keep
use Rattle.flash_session.proofs.answers.halt.Reads as halt
use Rattle.flash_session.proofs.answers.proceed.Reads as proceed
use Rattle.flash_session.proofs.answers.moved.Reads as moved
use Rattle.flash_session.proofs.answers.fetch.Reads as fetch
use Rattle.flash_session.proofs.answers.finish.Reads as finish
use Rattle.flash_commands.proofs.overflow.Reads as overflow
use Rattle.flash_commands.proofs.fill.Reads as fill
use Rattle.flash_commands.proofs.boot_table.Reads as boot-table
use Rattle.flash_commands.proofs.enable.Reads as enable
use Rattle.flash_commands.proofs.disable.Reads as disable
use Rattle.flash_commands.proofs.pass_over.Reads as pass_over
use Rattle.flash_commands.proofs.request.Reads as request
use Rattle.flash_commands.proofs.jump_and_close.Reads as jump_and_close
use Rattle.flash.proofs.step.Reads as step
use Rattle.claims.proofs.Uniqueness.{OneResult, OneResultAndMemory, same, both_same}

-- the session
pub is_length_unique : OneResult is-length.Post
is_length_unique κs a r s e f = same

pub is_image_unique : OneResult is-image.Post
is_image_unique κs a r s e f = same

pub flash_open_unique : OneResult opening.Post
flash_open_unique κs a r s e f = same

pub flash_open_numbering_unique : OneResult numbering.Post
flash_open_numbering_unique κs a r s e f = same

-- its answers
pub flash_keep_unique : OneResult keep.Post
flash_keep_unique κs a r s e f = same

pub flash_halt_unique : OneResult halt.Post
flash_halt_unique κs a r s e f = same

pub flash_proceed_unique : OneResult proceed.Post
flash_proceed_unique κs a r s e f = same

pub flash_moved_unique : OneResult moved.Post
flash_moved_unique κs a r s e f = same

pub flash_fetch_unique : OneResult fetch.Post
flash_fetch_unique κs a r s e f = same

pub flash_finish_unique : OneResult finish.Post
flash_finish_unique κs a r s e f = same

-- its commands
pub flash_overflow_unique : OneResult overflow.Post
flash_overflow_unique κs a r s e f = same

pub flash_fill_unique : OneResultAndMemory fill.Post (λ κs e. e.1.0.now)
flash_fill_unique κs a r s e f = both_same

pub flash_boot_table_unique : OneResultAndMemory boot-table.Post (λ κs e. e.1.0.now)
flash_boot_table_unique κs a r s e f = both_same

pub flash_enable_unique : OneResult enable.Post
flash_enable_unique κs a r s e f = same

pub flash_disable_unique : OneResult disable.Post
flash_disable_unique κs a r s e f = same

pub flash_pass_over_unique : OneResult pass_over.Post
flash_pass_over_unique κs a r s e f = same

pub flash_request_unique : OneResult request.Post
flash_request_unique κs a r s e f = same

pub flash_jump_and_close_unique : OneResult jump_and_close.Post
flash_jump_and_close_unique κs a r s e f = same

-- a call
pub flash_step_unique : OneResultAndMemory step.Post (λ κs e. e.1.0.now)
flash_step_unique κs a r s e f = both_same
