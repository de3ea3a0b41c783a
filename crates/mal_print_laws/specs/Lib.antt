pub mod PrintedReads
