use Rattle.std.proofs.Common.{◌∷◌, take, ap, ◌∙◌}
use Rattle.std.specs.List.{list_all}
use Rattle.read_laws.proofs.ByteLemmas.{word_front}
use Rattle.sql_tree.specs.Bytes.{is_word_byte}
use Rattle.audit_read.proofs.scan.word.Goals as goal

pub low_word-requires : goal.low_word-requires
low_word-requires c =
    ap (λ n. list_all is_word_byte (c.args.first ∷ take n c.args.after.now)) c.run_size-size.ensures.value
    ∙ word_front c.args.first c.args.after.now c.requires
