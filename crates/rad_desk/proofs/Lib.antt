pub mod ReceiptLemmas
