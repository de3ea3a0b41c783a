mod FormedStmts
mod ErrorLemmas
mod ResultLemmas
