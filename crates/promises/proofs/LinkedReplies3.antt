-- What is linked notes and replies to Issue 3 as the platform does.
-- Assumes nothing.
use Rattle.promises.specs.LinkedReplies3.{LinkedReplies3}
use Rattle.promises.proofs.LinkedReplying3.{answered3, as-on-table}
use Rattle.promises.proofs.LinkedAcross.{knows-ours}

pub linked_replies3 : LinkedReplies3
linked_replies3 =
    record {
      receive = λ s h kind k a n e p z.
          answered3 a.0 a.1.0.now a.1.1.0.now a.1.1.1.0.now a.1.1.1.1.0.now a.1.1.1.1.1.0.now
          a.1.1.1.1.1.1.0.now a.1.1.1.1.1.1.1.0.now a.1.1.1.1.1.1.1.1.0.now s h kind z n _ _ _ _
          a.1.1.1.1.1.1.1.1.1.0.now p.0 p.1.0 p.1.1.0 p.1.1.1.0 p.1.1.1.1;
      receive-in = λ s h kind words k a n e p z f.
          let ws = a.1.1.1.1.0.now in
          let was = a.1.1.1.1.1.1.1.1.1.1.0.now in
          let q = as-on-table a.0 a.1.0.now a.1.1.0.now a.1.1.1.0.now ws a.1.1.1.1.1.0.now
          a.1.1.1.1.1.1.0.now a.1.1.1.1.1.1.1.0.now a.1.1.1.1.1.1.1.1.0.now
          a.1.1.1.1.1.1.1.1.1.0.now s words z.table f was n _ _ _ _ p.0 p.1.0 p.1.1.0 p.1.1.1.0 p.1.1.1.1 in
          answered3 a.0 a.1.0.now a.1.1.0.now a.1.1.1.0.now ws a.1.1.1.1.1.0.now
          a.1.1.1.1.1.1.0.now a.1.1.1.1.1.1.1.1.0.now a.1.1.1.1.1.1.1.1.1.0.now s h kind z n _ _ _ _ was
          q.0 q.1 q.2 q.3 q.4;
      alike = λ s words k a n e p z f.
          as-on-table a.0 a.1.0.now a.1.1.0.now a.1.1.1.0.now a.1.1.1.1.0.now a.1.1.1.1.1.0.now
          a.1.1.1.1.1.1.0.now a.1.1.1.1.1.1.1.0.now a.1.1.1.1.1.1.1.1.0.now
          a.1.1.1.1.1.1.1.1.1.0.now s words z f a.1.1.1.1.1.1.1.1.1.1.0.now n _ _ _ _ p.0 p.1.0 p.1.1.0
          p.1.1.1.0 p.1.1.1.1;
      across = λ s h k a n e p j b m f q z.
          knows-ours a.0 a.1.0.now a.1.1.0.now a.1.1.1.0.now a.1.1.1.1.0.now a.1.1.1.1.1.0.now
          a.1.1.1.1.1.1.0.now a.1.1.1.1.1.1.1.0.now a.1.1.1.1.1.1.1.1.0.now s h
          b.0 b.1.0.now b.1.1.0.now b.1.1.1.0.now b.1.1.1.1.0.now b.1.1.1.1.1.0.now
          b.1.1.1.1.1.1.0.now b.1.1.1.1.1.1.1.0.now b.1.1.1.1.1.1.1.1.0.now
          e.1.1.1.1.1.1.1.1.0.now z p.1.1.1.0 m _ _ _ q.0 q.1.0 q.1.1.0 q.1.1.1.0;
    }
